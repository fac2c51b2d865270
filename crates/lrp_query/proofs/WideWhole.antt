-- What is read of any formula of the wide language, and of formulas in parentheses.
use Rattle.std.proofs.Common.{◌≡◌, inl, inr, ◌≤◌, ℕ, suc, Bool, true, false, List, [], ◌∷◌, ◌++◌, refl, ap, sym, ◌∙◌, subst, if◌then◌else◌, append_assoc, arith}
use Rattle.lrp_model.specs.declared.tokens.Symbol.TheVariants.{Open, Close}
use Rattle.lrp_model.specs.declared.tokens.Word.TheVariants.{And, Or, Implies}
use Rattle.lrp_model.specs.declared.tokens.Place.{Place}
use Rattle.lrp_model.specs.Tokens.{Placed, Tokens, Part, IsPart, Takes}
use Rattle.lrp_model.specs.Tokens.Token.{word_token, symbol_token}
use Rattle.lrp_model.specs.Tokens.Part.{at, any}
use Rattle.lrp_model.specs.Refused.{Fitting}
use Rattle.lrp_model.specs.Queries.{formula_text, members_text, looseness, IsOrdered, FitsChain}
use Rattle.lrp_model.specs.Queries.WrittenFormula.{all_of, any_of, implied, group, bare_all, bare_any, bare_chain, chain}
use Rattle.lrp_model.specs.Queries.FurtherMembers.{last, more}
use Rattle.lrp_model.specs.QueryMeaning.{raw_form, raw_chain}
use Rattle.lrp_model.specs.RawQueries.{RawForm, place_of}
use Rattle.lrp_text.specs.Parsers.{Parser, ◌>>=◌, pure, accept, eat}
use Rattle.lrp_text.specs.Taking.{is_word, expect}
use Rattle.lrp_text.proofs.Complete.{IsNot}
use Rattle.lrp_text.proofs.Sound.{takes_join, takes_split}
use Rattle.lrp_text.proofs.Viable.{fits_as, always}
use Rattle.lrp_text.proofs.OffsetRule.{NoShift}
use Rattle.lrp_query.specs.Rules.{Joined, member_of, whole, closed, closed_whole, enclosed_whole}
use Rattle.lrp_query.specs.Grammars.{meant}
use Rattle.lrp_query.proofs.Languages.{FitsAt}
use Rattle.lrp_query.proofs.WideTold.{Cut}
use Rattle.lrp_query.proofs.WideRule.{Language, Rule, as_rule, Nothing, pure_rule, Then, bind_rule, Made, map_rule, After, token_rule, Eats, eat_rule}
use Rattle.lrp_query.proofs.WideTerms.{symbol_rule, word_kind}
use Rattle.lrp_query.proofs.WideWritten.{Formula, joined_form, Wrote, FormulaText, JoinedText, fit_two, fit_first, fit_second, members_listed, listed_text, after_word, ChainText}
use Rattle.lrp_query.proofs.WideLevels.{cutting, FollowsAny, FollowsWhole, closer_follows, implies_follows, either_rule, low_before, chain_of, chained_rule}

-- ---- formulas in parentheses

-- a list or an implication with its parentheses, and another formula as a group
abbrev pub enclosed_tree : Place → Formula → Formula
enclosed_tree p (bare_all t f fs) = all_of p f fs
enclosed_tree p (bare_any t f fs) = any_of p f fs
enclosed_tree p (bare_chain t f (last g)) = implied p f g
enclosed_tree p (bare_chain t f (more g gs)) = chain t p f g gs
enclosed_tree p f = group p f

enclosed_means : (p : Place) (w : Formula) → closed meant p (joined_form w) ≡ raw_form (enclosed_tree p w)
enclosed_means p (bare_all t f fs) = refl
enclosed_means p (bare_any t f fs) = refl
enclosed_means p (bare_chain t f (last g)) = refl
enclosed_means p (bare_chain t f (more g gs)) = refl
enclosed_means p _ = refl

enclosed_tight : (p : Place) (w : Formula) → looseness (enclosed_tree p w) ≤ 0
enclosed_tight p (bare_all t f fs) = omega arith
enclosed_tight p (bare_any t f fs) = omega arith
enclosed_tight p (bare_chain t f (last g)) = omega arith
enclosed_tight p (bare_chain t f (more g gs)) = omega arith
enclosed_tight p _ = omega arith

enclosed_ordered : (p : Place) (w : Formula) → IsOrdered w → IsOrdered (enclosed_tree p w)
enclosed_ordered p (bare_all t f fs) o = o
enclosed_ordered p (bare_any t f fs) o = o
enclosed_ordered p (bare_chain t f (last g)) o = (o.0, o.1, o.2.0, o.2.1)
enclosed_ordered p (bare_chain t f (more g gs)) o = (o.0, o.1, o.2.0, o.2.1, o.2.2)
enclosed_ordered p _ o = (omega arith, o)

enclosed_fits : (c : Bool) (d : ℕ) (p : Place) (w : Formula) → Fitting c (FitsAt d w) → Fitting c (FitsAt (suc d) (enclosed_tree p w))
enclosed_fits c d p (bare_all t f fs) h = h
enclosed_fits c d p (bare_any t f fs) h = h
enclosed_fits c d p (bare_chain t f (last g)) h = h
enclosed_fits c d p (bare_chain t f (more g gs)) h = fits_as (FitsAt d (bare_chain t f (more g gs))) (FitsAt (suc d) (chain t p f g gs)) c (λ k. ((k.0.0, k.0.1.0, k.0.1.1), (k.1.0, k.1.1.0, k.1.1.1))) h
enclosed_fits c d p _ h = h

abbrev close : List Part
close = any (symbol_token Close) ∷ []

enclosed_spelled : (p : Place) (w : Formula) (t : Placed) (ts us : Tokens) → IsPart (at p (symbol_token Open)) t → Takes (formula_text w ++ close) ts us → Takes (formula_text (enclosed_tree p w)) (t ∷ ts) us
enclosed_spelled p (bare_all r f fs) t ts us is s = (is, subst (λ ps. Takes ps ts us) (append_assoc (formula_text f) (members_text And fs) close) s)
enclosed_spelled p (bare_any r f fs) t ts us is s = (is, subst (λ ps. Takes ps ts us) (append_assoc (formula_text f) (members_text Or fs) close) s)
enclosed_spelled p (bare_chain r f (last g)) t ts us is s = (is, subst (λ ps. Takes ps ts us) (append_assoc (formula_text f) (any (word_token Implies) ∷ formula_text g) close) s)
enclosed_spelled p (bare_chain r f (more g gs)) t ts us is s = (is, subst (λ ps. Takes ps ts us) (append_assoc (formula_text f) (any (word_token Implies) ∷ (formula_text g ++ members_text Implies gs)) close ∙ ap (λ ps. formula_text f ++ any (word_token Implies) ∷ ps) (append_assoc (formula_text g) (members_text Implies gs) close)) s)
enclosed_spelled p _ t ts us is s = (is, s)

-- a closing parenthesis
abbrev pub CloseText : {V : Type 0} → V → Language V
CloseText v = After (λ (u : Unit {0}). any (symbol_token Close)) (λ u. Unit {0}) (λ u. Nothing v)

pub close_takes : {V : Type 0} (a v : V) (c : Bool) (ms us : Tokens) → CloseText a c v ms us → Takes close ms us × (v ≡ a)
close_takes a v c [] us t = absurd t
close_takes a v c (u ∷ ms) us t = ((t.1.0, t.2.1), t.2.0)

pub close_back : {V : Type 0} (a : V) (c : Bool) (ms us : Tokens) → Takes close ms us → CloseText a c a ms us
close_back a c [] us s = absurd s
close_back a c (u ∷ ms) us s = (tt, (s.0, always (Unit {0}) c tt), (refl, s.1))

-- after an opening parenthesis
abbrev pub InsideText : ℕ → Place → Language RawForm
InsideText d p = Then (JoinedText 3 d) (λ j. CloseText (closed meant p j))

-- formulas in parentheses
abbrev pub EnclosedText : ℕ → Place → Language RawForm
EnclosedText d p = After (λ (u : Unit {0}). any (symbol_token Open)) (λ u. Unit {0}) (λ u. InsideText d p)

-- a tree of what stands in parentheses, at the place of the first of them
pub inside_there : (d : ℕ) (p q : Place) (c : Bool) (v : RawForm) (t : Placed) (ts us : Tokens) → IsPart (at q (symbol_token Open)) t → InsideText d p c v ts us → (w : Formula) × (looseness w ≤ 0) × IsOrdered w × (q ≡ p → v ≡ raw_form w) × Fitting c (FitsAt (suc d) w) × Takes (formula_text w) (t ∷ ts) us
inside_there d p q c v t ts us is (j, ms, w, s) =
    let k = close_takes (closed meant p j) v c ms us s in
    (enclosed_tree q w.tree, enclosed_tight q w.tree, enclosed_ordered q w.tree w.ordered, (λ e. k.1 ∙ ap (closed meant p) w.means ∙ ap (λ x. closed meant x (joined_form w.tree)) (sym e) ∙ enclosed_means q w.tree), enclosed_fits c d q w.tree w.fits, enclosed_spelled q w.tree t ts us is (takes_join (formula_text w.tree) close ts ms us w.spelled k.0))

-- and what is read of one
inside_of : (d : ℕ) (p : Place) (c : Bool) (ts us : Tokens) (w : Formula) → looseness w ≤ 3 → IsOrdered w → Fitting c (FitsAt d w) → Takes (formula_text w ++ close) ts us → InsideText d p c (closed meant p (joined_form w)) ts us
inside_of d p c ts us w low o fit s =
    let k = takes_split (formula_text w) close ts us s in
    (joined_form w, k.0, record { tree = w; tight = low; ordered = o; means = refl; fits = fit; spelled = k.1 }, close_back (closed meant p (joined_form w)) c k.0 us k.2)

abbrev pub IsEnclosed : Formula → Type 0
IsEnclosed (all_of p f fs) = Unit {0}
IsEnclosed (any_of p f fs) = Unit {0}
IsEnclosed (implied p f g) = Unit {0}
IsEnclosed (chain t p f g gs) = Unit {0}
IsEnclosed (group p f) = Unit {0}
IsEnclosed _ = ⊥

pub enclosed_back : (d : ℕ) (c : Bool) (p : Place) (ts us : Tokens) (w : Formula) → IsEnclosed w → IsOrdered w → Fitting c (FitsAt (suc d) w) → Takes (formula_text w) ts us → (p : Place) → place_of (raw_form w) ≡ p → EnclosedText d p c (raw_form w) ts us
enclosed_back d c q [] us (all_of r f fs) is o fit s p e = absurd s
enclosed_back d c q [] us (any_of r f fs) is o fit s p e = absurd s
enclosed_back d c q [] us (implied r f g) is o fit s p e = absurd s
enclosed_back d c q [] us (chain t r f g gs) is o fit s p e = absurd s
enclosed_back d c q [] us (group r f) is o fit s p e = absurd s
enclosed_back d c q (u ∷ ts) us (all_of r f fs) is o fit s p e =
    (tt, (s.0.0, always (Unit {0}) c tt), subst (λ x. InsideText d p c (closed meant x (joined_form (bare_all refl f fs))) ts us) (sym e) (inside_of d p c ts us (bare_all refl f fs) (omega arith) o fit (subst (λ ps. Takes ps ts us) (sym (append_assoc (formula_text f) (members_text And fs) close)) s.1)))
enclosed_back d c q (u ∷ ts) us (any_of r f fs) is o fit s p e =
    (tt, (s.0.0, always (Unit {0}) c tt), subst (λ x. InsideText d p c (closed meant x (joined_form (bare_any refl f fs))) ts us) (sym e) (inside_of d p c ts us (bare_any refl f fs) (omega arith) o fit (subst (λ ps. Takes ps ts us) (sym (append_assoc (formula_text f) (members_text Or fs) close)) s.1)))
enclosed_back d c q (u ∷ ts) us (implied r f g) is o fit s p e =
    (tt, (s.0.0, always (Unit {0}) c tt), subst (λ x. InsideText d p c (closed meant x (joined_form (bare_chain refl f (last g)))) ts us) (sym e) (inside_of d p c ts us (bare_chain refl f (last g)) (omega arith) (o.0, o.1, (o.2, o.3)) fit (subst (λ ps. Takes ps ts us) (sym (append_assoc (formula_text f) (any (word_token Implies) ∷ formula_text g) close)) s.1)))
enclosed_back d c q (u ∷ ts) us (chain t r f g gs) is o fit s p e =
    let fits = fits_as (FitsAt (suc d) (chain t r f g gs)) (FitsAt d (bare_chain t f (more g gs))) c (λ k. ((k.0.0, (k.0.1, k.0.2)), (k.1.0, (k.1.1, k.1.2)))) fit in
    (tt, (s.0.0, always (Unit {0}) c tt), subst (λ x. InsideText d p c (closed meant x (joined_form (bare_chain t f (more g gs)))) ts us) (sym e) (inside_of d p c ts us (bare_chain t f (more g gs)) (omega arith) (o.0, o.1, (o.2, o.3, o.4)) fits (subst (λ ps. Takes ps ts us) (sym (append_assoc (formula_text f) (any (word_token Implies) ∷ (formula_text g ++ members_text Implies gs)) close ∙ ap (λ ps. formula_text f ++ any (word_token Implies) ∷ ps) (append_assoc (formula_text g) (members_text Implies gs) close))) s.1)))
enclosed_back d c q (u ∷ ts) us (group r f) is o fit s p e = grouped f (o.0) o.1 fit s
  where
    grouped : (f : Formula) → looseness f ≤ 0 → IsOrdered f → Fitting c (FitsAt d f) → Takes (formula_text (group r f)) (u ∷ ts) us → EnclosedText d p c (raw_form (group r f)) (u ∷ ts) us
    grouped f low o fit s =
        (tt, (s.0.0, always (Unit {0}) c tt), subst (λ v. InsideText d p c v ts us) (alone f low ∙ ap (λ x. raw_form (group x f)) (sym e)) (inside_of d p c ts us f (omega (arith, low)) o fit s.1))
      where
        alone : (f : Formula) → looseness f ≤ 0 → closed meant p (joined_form f) ≡ raw_form (group p f)
        alone (bare_all t g fs) low = absurd (omega (arith, low))
        alone (bare_any t g fs) low = absurd (omega (arith, low))
        alone (bare_chain t g fs) low = absurd (omega (arith, low))
        alone _ low = refl
enclosed_back d c q ts us w is o fit s p e = absurd is

-- ---- any formula

module _ (size most : ℕ) (inner : Cut → ℕ → Parser RawForm) (at_zero : (c : Cut) → inner c 0 ≡ accept c) (rules : (d : ℕ) → d ≤ most → Rule size false NoShift (FormulaText d) (λ c. inner c d)) where
  abbrev bare_form : RawForm → Joined RawForm
  bare_form g = record { formula = g; bare = true }

  abbrev WholeText : ℕ → Joined RawForm → Language (Joined RawForm)
  WholeText d j = Eats (word_token Implies) (Made bare_form (ChainText d j.formula)) (Nothing j)

  whole_there : (d : ℕ) (c : Bool) (v : Joined RawForm) (ts us : Tokens) → Then (JoinedText 2 d) (WholeText d) c v ts us → JoinedText 3 d c v ts us
  whole_there d c v ts us (j, [], t, inl m) = absurd m
  whole_there d c v ts us (j, u ∷ ms, t, inl (is, (g, e, r))) =
      record {
        tree = bare_chain refl t.tree r.members;
        tight = omega arith;
        ordered = (t.tight, t.ordered, r.ordered);
        means = e ∙ ap bare_form (r.means ∙ ap (λ x. raw_chain (place_of x) x r.members) (ap (λ x. x.formula) t.means));
        fits = fit_two c d t.tree r.members (FitsChain r.members d) t.fits r.fits;
        spelled = takes_join (formula_text t.tree) (members_text Implies r.members) ts (u ∷ ms) us t.spelled (subst (λ ps. Takes ps (u ∷ ms) us) (sym (members_listed Implies r.members)) (is, r.spelled));
      }
  whole_there d c v ts us (j, ms, t, inr (e, q)) = record { tree = t.tree; tight = omega (arith, t.tight); ordered = t.ordered; means = e ∙ t.means; fits = t.fits; spelled = subst (Takes (formula_text t.tree) ts) q t.spelled }

  below_whole : (d : ℕ) (c : Bool) (v : Joined RawForm) (ts us : Tokens) (w : JoinedText 3 d c v ts us) → looseness w.tree ≤ 2 → Then (JoinedText 2 d) (WholeText d) c v ts us
  below_whole d c v ts us w low = (v, us, record { tree = w.tree; tight = low; ordered = w.ordered; means = w.means; fits = w.fits; spelled = w.spelled }, inr (refl, refl))

  whole_of_tree : (d : ℕ) (c : Bool) (v : Joined RawForm) (ts us : Tokens) (tree : Formula) → looseness tree ≤ 3 → IsOrdered tree → v ≡ joined_form tree → Fitting c (FitsAt d tree) → Takes (formula_text tree) ts us → Then (JoinedText 2 d) (WholeText d) c v ts us
  whole_of_tree d c v ts us (bare_chain t f fs) tight o e fit s =
      let k = takes_split (formula_text f) (members_text Implies fs) ts us s in (
        joined_form f,
        k.0,
        record { tree = f; tight = o.0; ordered = o.1; means = refl; fits = fit_first c d f fs (FitsChain fs d) fit; spelled = k.1 },
        inl (after_word Implies (listed_text Implies fs) (λ ns. Made bare_form (ChainText d (raw_form f)) c v ns us) k.0 us (subst (λ ps. Takes ps k.0 us) (members_listed Implies fs) k.2)
            (λ ns h. (raw_chain (place_of (raw_form f)) (raw_form f) fs, e, record { members = fs; ordered = o.2; means = refl; fits = fit_second c d f fs (FitsChain fs d) fit; spelled = h }))),
      )
  whole_of_tree d c v ts us (bare_all t f fs) tight o e fit s = below_whole d c v ts us (record { tree = bare_all t f fs; tight = tight; ordered = o; means = e; fits = fit; spelled = s }) (omega arith)
  whole_of_tree d c v ts us (bare_any t f fs) tight o e fit s = below_whole d c v ts us (record { tree = bare_any t f fs; tight = tight; ordered = o; means = e; fits = fit; spelled = s }) (omega arith)
  whole_of_tree d c v ts us tree tight o e fit s = below_whole d c v ts us (record { tree = tree; tight = tight; ordered = o; means = e; fits = fit; spelled = s }) (omega arith)

  whole_follows : (d : ℕ) (j : Joined RawForm) (c : Bool) (v : Joined RawForm) (ms left : Tokens) → WholeText d j c v ms left → FollowsWhole left → FollowsAny ms
  whole_follows d j c v [] left (inl m) g = absurd m
  whole_follows d j c v (t ∷ ms) left (inl m) g = implies_follows t ms m.0
  whole_follows d j c v ms left (inr m) g = subst FollowsAny (sym m.1) g.0

  pub whole_rule : (d : ℕ) → d ≤ most → Rule size false FollowsWhole (JoinedText 3 d) (λ c. whole (cutting c) (inner c) d size)
  unfolding whole
  whole_rule d low =
      as_rule (JoinedText 3 d)
      (bind_rule (λ j c. eat (is_word Implies) >>= (λ implies. if implies then (chain_of size inner d size j.formula c >>= (λ f. pure (bare_form f))) else pure j)) (either_rule size size d (omega arith) (λ c. inner c d) (rules d low))
      (λ j. eat_rule (λ implies c. if implies then (chain_of size inner d size j.formula c >>= (λ f. pure (bare_form f))) else pure j) (word_kind Implies) (low_before size)
      (map_rule bare_form (chained_rule size inner at_zero most rules d size low (omega arith) j.formula))
      (pure_rule size true FollowsWhole j) (λ c v ts left m g. subst (IsNot (is_word Implies)) (sym m.1) g.1))
      (whole_follows d))
      (whole_there d) (λ c v ts us w. whole_of_tree d c v ts us w.tree w.tight w.ordered w.means w.fits w.spelled)

  -- any formula, whether it has parentheses of its own or not
  abbrev pub PartText : ℕ → Language RawForm
  PartText d = Wrote raw_form 3 d

  pub part_rule : (d : ℕ) → d ≤ most → Rule size false FollowsWhole (PartText d) (λ c. member_of (whole (cutting c) (inner c) d size))
  part_rule d low =
      as_rule (PartText d) (map_rule (λ j. j.formula) (whole_rule d low))
      (λ c v ts us m. let w = m.2 in record { tree = w.tree; tight = w.tight; ordered = w.ordered; means = m.1 ∙ ap (λ j. j.formula) w.means; fits = w.fits; spelled = w.spelled })
      (λ c v ts us w. (joined_form w.tree, w.means, record { tree = w.tree; tight = w.tight; ordered = w.ordered; means = refl; fits = w.fits; spelled = w.spelled }))

  close_follows : (p : Place) (j : Joined RawForm) (c : Bool) (v : RawForm) (ms left : Tokens) → CloseText (closed meant p j) c v ms left → NoShift left → FollowsWhole ms
  close_follows p j c v [] left t g = absurd t
  close_follows p j c v (u ∷ ms) left t g = closer_follows Close (record { no_plus = refl; no_minus = refl }) u ms t.1.0

  pub enclosed_rule : (d : ℕ) → d ≤ most → (p : Place) → Rule size true NoShift (EnclosedText d p) (λ c. enclosed_whole (cutting c) (inner c) d size p)
  unfolding enclosed_whole closed_whole
  enclosed_rule d low p =
      token_rule (λ u c. whole (cutting c) (inner c) d size >>= (λ j. expect Close >>= (λ v. pure (closed meant p j)))) (symbol_rule Open)
      (λ u. bind_rule (λ j c. expect Close >>= (λ v. pure (closed meant p j))) (whole_rule d low)
      (λ j. token_rule (λ v c. pure (closed meant p j)) (symbol_rule Close) (λ v. pure_rule size false NoShift (closed meant p j)))
      (close_follows p))
