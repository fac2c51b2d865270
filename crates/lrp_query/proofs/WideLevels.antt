-- What is read of `and`, `or` and `implies` without parentheses, and of what stands in them: each level over the one below it.
use Rattle.std.proofs.Common.{◌≡◌, ◌⊎◌, inl, inr, ◌≤◌, ◌<◌, ◌-◌, ◌==◌, ℕ, zero, suc, Bool, true, false, List, [], ◌∷◌, ◌++◌, length, refl, ap, sym, ◌∙◌, subst, Ok, Err, if◌then◌else◌, arith}
use Rattle.lrp_model.specs.declared.tokens.Symbol.{Symbol}
use Rattle.lrp_model.specs.declared.tokens.Symbol.TheVariants.{Plus, Minus}
use Rattle.lrp_model.specs.declared.tokens.Word.{Word}
use Rattle.lrp_model.specs.declared.tokens.Word.TheVariants.{And, Or, Implies}
use Rattle.lrp_model.specs.declared.tokens.Fault.{Fault}
use Rattle.lrp_model.specs.declared.tokens.Fault.TheVariants.{Syntax, Deep}
use Rattle.lrp_model.specs.Lexing.{start}
use Rattle.lrp_model.specs.Tokens.{Token, Placed, Tokens, Takes}
use Rattle.lrp_model.specs.Tokens.Token.{word_token, symbol_token, hole_token}
use Rattle.lrp_model.specs.Tokens.Part.{any}
use Rattle.lrp_model.specs.Refused.{Fitting, Stops}
use Rattle.lrp_model.specs.Queries.{formula_text, members_text, looseness, IsOrdered, AreOrdered, FitSizes, FitDepth, FitsChain}
use Rattle.lrp_model.specs.Queries.WrittenFormula.{atom_formula, compared, member, denied, all_of, any_of, implied, group, some, every, ranged, paired, differing, several, bare_all, bare_any, bare_chain, chain, hole}
use Rattle.lrp_model.specs.Queries.FurtherMembers.{last, more}
use Rattle.lrp_model.specs.QueryMeaning.{raw_form, raw_forms, raw_chain}
use Rattle.lrp_model.specs.RawQueries.{RawForm, raw, raw_and, raw_or, raw_implies, place_of}
use Rattle.lrp_text.specs.Parsers.{Parser, and_then, ◌>>=◌, pure, fail, accept, look, eat, separated_from}
use Rattle.lrp_text.specs.Taking.{is_symbol_token, is_word, is_word_token}
use Rattle.lrp_text.proofs.Complete.{Answers, answers_then, IsNot}
use Rattle.lrp_text.proofs.Sound.{bind_ok, accept_ok, look_ok, takes_join, takes_split, takes_front, takes_onto}
use Rattle.lrp_text.proofs.Local.{Local, bind_local, look_local, pure_local, fail_local}
use Rattle.lrp_text.proofs.OffsetRule.{NoShift}
use Rattle.lrp_query.specs.Rules.{Trees, Joined, raws, both, either, member_of, last_link, chained}
use Rattle.lrp_query.specs.Grammars.{meant}
use Rattle.lrp_model.specs.RawQueries.{RawQuestion}
use Rattle.lrp_model.specs.declared.raw.RawTerm.{RawTerm}
use Rattle.lrp_model.specs.declared.raw.RawTermKind.{RawTermKind}
use Rattle.lrp_query.proofs.Languages.{FitsAt}
use Rattle.lrp_query.proofs.WideTold.{Cut, Told, took, refused, cut_off, fail_tells}
use Rattle.std.proofs.Math.Dec.{eqb-suc-zero}
use Rattle.lrp_query.proofs.WideRule.{Language, Texts, Front, Rule, Untold, as_rule, alike_rule, below_rule, follow_rule, Nothing, pure_rule, Then, bind_with, bind_rule, Made, map_rule, KindRule, AfterToken, Eats, eat_rule, Members as SeparatedMembers, separated_rule}
use Rattle.lrp_query.proofs.WideTerms.{word_kind}
use Rattle.lrp_query.proofs.WideWritten.{Formula, Further, tight_alone, joined_form, Wrote, FormulaText, JoinedText, fit_two, fit_first, fit_second, unlawful, listed_text, members_listed, members_there, forms_of, forms_are, members_back, after_word, ChainText}

-- the trees of the program, with any cut
abbrev pub cutting : Cut → Trees RawTermKind RawTerm RawForm RawQuestion
cutting c = record { terms = meant.terms; formulas = meant.formulas; cut = c; question = meant.question }

-- ---- what may follow

abbrev pub FollowsAll : Tokens → Type 0
FollowsAll left = NoShift left × IsNot (is_word And) left

abbrev pub FollowsAny : Tokens → Type 0
FollowsAny left = FollowsAll left × IsNot (is_word Or) left

abbrev pub FollowsWhole : Tokens → Type 0
FollowsWhole left = FollowsAny left × IsNot (is_word Implies) left

word_shift : (w : Word) (t : Placed) (ts : Tokens) → t.token ≡ word_token w → NoShift (t ∷ ts)
word_shift w t ts e = (ap (is_symbol_token Plus) e, ap (is_symbol_token Minus) e)

or_follows : (t : Placed) (ts : Tokens) → t.token ≡ word_token Or → FollowsAll (t ∷ ts)
or_follows t ts e = (word_shift Or t ts e, ap (is_word_token And) e)

pub implies_follows : (t : Placed) (ts : Tokens) → t.token ≡ word_token Implies → FollowsAny (t ∷ ts)
implies_follows t ts e = ((word_shift Implies t ts e, ap (is_word_token And) e), ap (is_word_token Or) e)

-- a symbol that goes on no formula
pub record Closer (s : Symbol) : Type 0 where
  pub no_plus : is_symbol_token Plus (symbol_token s) ≡ false
  pub no_minus : is_symbol_token Minus (symbol_token s) ≡ false

pub closer_follows : (s : Symbol) → Closer s → (t : Placed) (ts : Tokens) → t.token ≡ symbol_token s → FollowsWhole (t ∷ ts)
closer_follows s k t ts e = ((((ap (is_symbol_token Plus) e ∙ k.no_plus, ap (is_symbol_token Minus) e ∙ k.no_minus), ap (is_word_token And) e), ap (is_word_token Or) e), ap (is_word_token Implies) e)

-- ---- `and`

module _ (n size d : ℕ) (low : n ≤ size) (inner : Cut → Parser RawForm) (one : Rule size false NoShift (FormulaText d) inner) where
  abbrev all_list : RawForm → List RawForm → Joined RawForm
  all_list f fs = record { formula = raw_and (place_of f) (raws fs); bare = true }

  abbrev AllText : RawForm → Language (Joined RawForm)
  AllText f = Eats (word_token And) (Made (all_list f) (SeparatedMembers (FormulaText d) (word_token And) (f ∷ []))) (Nothing (record { formula = f; bare = false }))

  all_made : (v : Joined RawForm) (f : RawForm) (fs vs : List RawForm) (tree : Formula) (members : Further) → v ≡ all_list f fs → fs ≡ (f ∷ []) ++ vs → f ≡ raw_form tree → raws vs ≡ raw_forms members → v ≡ joined_form (bare_all refl tree members)
  all_made v f fs vs tree members e l m r = e ∙ ap (all_list f) l ∙ ap (λ x. record { formula = raw_and (place_of x) (raw x (raws vs)); bare = true }) m ∙ ap (λ y. record { formula = raw_and (place_of (raw_form tree)) (raw (raw_form tree) y); bare = true }) r

  all_there : (c : Bool) (v : Joined RawForm) (ts us : Tokens) → Then (FormulaText d) AllText c v ts us → JoinedText 1 d c v ts us
  all_there c v ts us (f, [], t, inl m) = absurd m
  all_there c v ts us (f, u ∷ ms, t, inl (is, (fs, e, (vs, l, s)))) =
      let r = members_there And 0 d c vs ms us s in
      record {
        tree = bare_all refl t.tree r.members;
        tight = omega arith;
        ordered = (t.tight, t.ordered, r.ordered);
        means = all_made v f fs vs t.tree r.members e l t.means r.means;
        fits = fit_two c d t.tree r.members (FitDepth r.members d) t.fits r.fits;
        spelled = takes_join (formula_text t.tree) (members_text And r.members) ts (u ∷ ms) us t.spelled (subst (λ ps. Takes ps (u ∷ ms) us) (sym (members_listed And r.members)) (is, r.spelled));
      }
  all_there c v ts us (f, ms, t, inr (e, q)) =
      record {
        tree = t.tree;
        tight = omega (arith, t.tight);
        ordered = t.ordered;
        means = e ∙ ap (λ x. record { formula = x; bare = false }) t.means ∙ ap (λ b. record { formula = raw_form t.tree; bare = b }) (sym (tight_alone t.tree t.tight));
        fits = t.fits;
        spelled = subst (Takes (formula_text t.tree) ts) q t.spelled;
      }

  alone_back : (c : Bool) (v : Joined RawForm) (ts us : Tokens) (tree : Formula) → looseness tree ≤ 0 → IsOrdered tree → v ≡ joined_form tree → Fitting c (FitsAt d tree) → Takes (formula_text tree) ts us → Then (FormulaText d) AllText c v ts us
  alone_back c v ts us tree low o e f s = (raw_form tree, us, record { tree = tree; tight = low; ordered = o; means = refl; fits = f; spelled = s }, inr (e ∙ ap (λ b. record { formula = raw_form tree; bare = b }) (tight_alone tree low), refl))

  all_of_tree : (c : Bool) (v : Joined RawForm) (ts us : Tokens) (tree : Formula) → looseness tree ≤ 1 → IsOrdered tree → v ≡ joined_form tree → Fitting c (FitsAt d tree) → Takes (formula_text tree) ts us → Then (FormulaText d) AllText c v ts us
  all_of_tree c v ts us (bare_all t f fs) tight o e fit s =
      let k = takes_split (formula_text f) (members_text And fs) ts us s in (
        raw_form f,
        k.0,
        record { tree = f; tight = o.0; ordered = o.1; means = refl; fits = fit_first c d f fs (FitDepth fs d) fit; spelled = k.1 },
        inl (after_word And (listed_text And fs) (λ ns. Made (all_list (raw_form f)) (SeparatedMembers (FormulaText d) (word_token And) (raw_form f ∷ [])) c v ns us) k.0 us (subst (λ ps. Takes ps k.0 us) (members_listed And fs) k.2)
            (λ ns h. (raw_form f ∷ forms_of fs, e ∙ ap (λ y. record { formula = raw_and (place_of (raw_form f)) (raw (raw_form f) y); bare = true }) (sym (forms_are fs)), (forms_of fs, refl, members_back And 0 d c fs ns us o.2 (fit_second c d f fs (FitDepth fs d) fit) h)))),
      )
  all_of_tree c v ts us (bare_any t f fs) tight o e fit s = absurd (omega (arith, tight))
  all_of_tree c v ts us (bare_chain t f fs) tight o e fit s = absurd (omega (arith, tight))
  all_of_tree c v ts us (atom_formula p n xs) tight o e fit s = alone_back c v ts us (atom_formula p n xs) (omega arith) o e fit s
  all_of_tree c v ts us (compared l op r) tight o e fit s = alone_back c v ts us (compared l op r) (omega arith) o e fit s
  all_of_tree c v ts us (member t i k) tight o e fit s = alone_back c v ts us (member t i k) (omega arith) o e fit s
  all_of_tree c v ts us (denied p f) tight o e fit s = alone_back c v ts us (denied p f) (omega arith) o e fit s
  all_of_tree c v ts us (all_of p f fs) tight o e fit s = alone_back c v ts us (all_of p f fs) (omega arith) o e fit s
  all_of_tree c v ts us (any_of p f fs) tight o e fit s = alone_back c v ts us (any_of p f fs) (omega arith) o e fit s
  all_of_tree c v ts us (implied p f g) tight o e fit s = alone_back c v ts us (implied p f g) (omega arith) o e fit s
  all_of_tree c v ts us (group p f) tight o e fit s = alone_back c v ts us (group p f) (omega arith) o e fit s
  all_of_tree c v ts us (some p b f) tight o e fit s = alone_back c v ts us (some p b f) (omega arith) o e fit s
  all_of_tree c v ts us (every p b f) tight o e fit s = alone_back c v ts us (every p b f) (omega arith) o e fit s
  all_of_tree c v ts us (ranged t w x a b f) tight o e fit s = alone_back c v ts us (ranged t w x a b f) (omega arith) o e fit s
  all_of_tree c v ts us (paired t w x f g) tight o e fit s = alone_back c v ts us (paired t w x f g) (omega arith) o e fit s
  all_of_tree c v ts us (differing t l r) tight o e fit s = alone_back c v ts us (differing t l r) (omega arith) o e fit s
  all_of_tree c v ts us (several t q p ns b f) tight o e fit s = alone_back c v ts us (several t q p ns b f) (omega arith) o e fit s
  all_of_tree c v ts us (chain t p f g fs) tight o e fit s = alone_back c v ts us (chain t p f g fs) (omega arith) o e fit s
  all_of_tree c v ts us (hole p) tight o e fit s = alone_back c v ts us (hole p) (omega arith) o e fit s

  all_follows : (f : RawForm) (c : Bool) (v : Joined RawForm) (ms left : Tokens) → AllText f c v ms left → FollowsAll left → NoShift ms
  all_follows f c v [] left (inl m) g = absurd m
  all_follows f c v (t ∷ ms) left (inl m) g = word_shift And t ms m.0
  all_follows f c v ms left (inr m) g = subst NoShift (sym m.1) g.0

  pub both_rule : Rule n false FollowsAll (JoinedText 1 d) (λ c. both (cutting c) (inner c) n)
  unfolding both
  both_rule =
      as_rule (JoinedText 1 d)
      (bind_rule (λ f c. eat (is_word And) >>= (λ ands. if ands then (separated_from (inner c) (is_word And) n (f ∷ []) >>= (λ fs. pure (all_list f fs))) else pure (record { formula = f; bare = false }))) (below_rule n low one)
      (λ f. eat_rule (λ ands c. if ands then (separated_from (inner c) (is_word And) n (f ∷ []) >>= (λ fs. pure (all_list f fs))) else pure (record { formula = f; bare = false })) (word_kind And) (omega arith)
      (map_rule (all_list f) (follow_rule FollowsAll (λ left g. g) (separated_rule size false NoShift (FormulaText d) inner one (is_word And) (word_token And) (word_kind And) (word_shift And) n low (f ∷ []))))
      (pure_rule n true FollowsAll (record { formula = f; bare = false })) (λ c v ts left m g. subst (IsNot (is_word And)) (sym m.1) g.1))
      all_follows)
      all_there (λ c v ts us w. all_of_tree c v ts us w.tree w.tight w.ordered w.means w.fits w.spelled)

  -- ---- `or`

  abbrev MemberText : Language RawForm
  MemberText = Wrote raw_form 1 d

  member_rule : Rule n false FollowsAll MemberText (λ c. member_of (both (cutting c) (inner c) n))
  member_rule =
      as_rule MemberText (map_rule (λ j. j.formula) both_rule)
      (λ c v ts us m. let w = m.2 in record { tree = w.tree; tight = w.tight; ordered = w.ordered; means = m.1 ∙ ap (λ j. j.formula) w.means; fits = w.fits; spelled = w.spelled })
      (λ c v ts us w. (joined_form w.tree, w.means, record { tree = w.tree; tight = w.tight; ordered = w.ordered; means = refl; fits = w.fits; spelled = w.spelled }))

  abbrev any_list : RawForm → List RawForm → Joined RawForm
  any_list f fs = record { formula = raw_or (place_of f) (raws fs); bare = true }

  abbrev AnyText : Joined RawForm → Language (Joined RawForm)
  AnyText j = Eats (word_token Or) (Made (any_list j.formula) (SeparatedMembers MemberText (word_token Or) (j.formula ∷ []))) (Nothing j)

  any_made : (v : Joined RawForm) (f : RawForm) (fs vs : List RawForm) (tree : Formula) (members : Further) → v ≡ any_list f fs → fs ≡ (f ∷ []) ++ vs → f ≡ raw_form tree → raws vs ≡ raw_forms members → v ≡ joined_form (bare_any refl tree members)
  any_made v f fs vs tree members e l m r = e ∙ ap (any_list f) l ∙ ap (λ x. record { formula = raw_or (place_of x) (raw x (raws vs)); bare = true }) m ∙ ap (λ y. record { formula = raw_or (place_of (raw_form tree)) (raw (raw_form tree) y); bare = true }) r

  any_there : (c : Bool) (v : Joined RawForm) (ts us : Tokens) → Then (JoinedText 1 d) AnyText c v ts us → JoinedText 2 d c v ts us
  any_there c v ts us (j, [], t, inl m) = absurd m
  any_there c v ts us (j, u ∷ ms, t, inl (is, (fs, e, (vs, l, s)))) =
      let r = members_there Or 1 d c vs ms us s in
      record {
        tree = bare_any refl t.tree r.members;
        tight = omega arith;
        ordered = (t.tight, t.ordered, r.ordered);
        means = any_made v j.formula fs vs t.tree r.members e l (ap (λ x. x.formula) t.means) r.means;
        fits = fit_two c d t.tree r.members (FitDepth r.members d) t.fits r.fits;
        spelled = takes_join (formula_text t.tree) (members_text Or r.members) ts (u ∷ ms) us t.spelled (subst (λ ps. Takes ps (u ∷ ms) us) (sym (members_listed Or r.members)) (is, r.spelled));
      }
  any_there c v ts us (j, ms, t, inr (e, q)) = record { tree = t.tree; tight = omega (arith, t.tight); ordered = t.ordered; means = e ∙ t.means; fits = t.fits; spelled = subst (Takes (formula_text t.tree) ts) q t.spelled }

  below_any : (c : Bool) (v : Joined RawForm) (ts us : Tokens) (w : JoinedText 2 d c v ts us) → looseness w.tree ≤ 1 → Then (JoinedText 1 d) AnyText c v ts us
  below_any c v ts us w low = (v, us, record { tree = w.tree; tight = low; ordered = w.ordered; means = w.means; fits = w.fits; spelled = w.spelled }, inr (refl, refl))

  any_of_tree : (c : Bool) (v : Joined RawForm) (ts us : Tokens) (tree : Formula) → looseness tree ≤ 2 → IsOrdered tree → v ≡ joined_form tree → Fitting c (FitsAt d tree) → Takes (formula_text tree) ts us → Then (JoinedText 1 d) AnyText c v ts us
  any_of_tree c v ts us (bare_any t f fs) tight o e fit s =
      let k = takes_split (formula_text f) (members_text Or fs) ts us s in (
        joined_form f,
        k.0,
        record { tree = f; tight = o.0; ordered = o.1; means = refl; fits = fit_first c d f fs (FitDepth fs d) fit; spelled = k.1 },
        inl (after_word Or (listed_text Or fs) (λ ns. Made (any_list (raw_form f)) (SeparatedMembers MemberText (word_token Or) (raw_form f ∷ [])) c v ns us) k.0 us (subst (λ ps. Takes ps k.0 us) (members_listed Or fs) k.2)
            (λ ns h. (raw_form f ∷ forms_of fs, e ∙ ap (λ y. record { formula = raw_or (place_of (raw_form f)) (raw (raw_form f) y); bare = true }) (sym (forms_are fs)), (forms_of fs, refl, members_back Or 1 d c fs ns us o.2 (fit_second c d f fs (FitDepth fs d) fit) h)))),
      )
  any_of_tree c v ts us (bare_chain t f fs) tight o e fit s = absurd (omega (arith, tight))
  any_of_tree c v ts us (bare_all t f fs) tight o e fit s = below_any c v ts us (record { tree = bare_all t f fs; tight = tight; ordered = o; means = e; fits = fit; spelled = s }) (omega arith)
  any_of_tree c v ts us tree tight o e fit s = below_any c v ts us (record { tree = tree; tight = tight; ordered = o; means = e; fits = fit; spelled = s }) (omega arith)

  any_follows : (j : Joined RawForm) (c : Bool) (v : Joined RawForm) (ms left : Tokens) → AnyText j c v ms left → FollowsAny left → FollowsAll ms
  any_follows j c v [] left (inl m) g = absurd m
  any_follows j c v (t ∷ ms) left (inl m) g = or_follows t ms m.0
  any_follows j c v ms left (inr m) g = subst FollowsAll (sym m.1) g.0

  pub either_rule : Rule n false FollowsAny (JoinedText 2 d) (λ c. either (cutting c) (inner c) n)
  unfolding either
  either_rule =
      as_rule (JoinedText 2 d)
      (bind_rule (λ j c. eat (is_word Or) >>= (λ ors. if ors then (separated_from (member_of (both (cutting c) (inner c) n)) (is_word Or) n (j.formula ∷ []) >>= (λ fs. pure (any_list j.formula fs))) else pure j)) both_rule
      (λ j. eat_rule (λ ors c. if ors then (separated_from (member_of (both (cutting c) (inner c) n)) (is_word Or) n (j.formula ∷ []) >>= (λ fs. pure (any_list j.formula fs))) else pure j) (word_kind Or) (omega arith)
      (map_rule (any_list j.formula) (follow_rule FollowsAny (λ left g. g) (separated_rule n false FollowsAll MemberText (λ c. member_of (both (cutting c) (inner c) n)) member_rule (is_word Or) (word_token Or) (word_kind Or) or_follows n (omega arith) (j.formula ∷ []))))
      (pure_rule n true FollowsAny j) (λ c v ts left m g. subst (IsNot (is_word Or)) (sym m.1) g.1))
      any_follows)
      any_there (λ c v ts us w. any_of_tree c v ts us w.tree w.tight w.ordered w.means w.fits w.spelled)

-- ---- `implies`

-- a formula, after which a word is refused
module _ {V : Type 0} (size : ℕ) (F : Tokens → Type 0) (test : Placed → Bool) (k : Token) (kind : KindRule test k) (a : V) (S : V → Tokens → Tokens → Type 0) (front_of : (v : V) (ts us : Tokens) → S v ts us → Front (λ c. S) true v ts us) (value : V) (tokens : Tokens) (some_further : S value tokens []) (refuses : (left : Tokens) → F left → IsNot test left) where
  abbrev pub Stopping : Language V
  Stopping c v ts us = Nothing a c v ts us ⊎ ((c ≡ false) × AfterToken k (λ ms. S v ms us) ts)

  abbrev stopping : Bool → Parser V
  stopping further = if further then fail Deep else pure a

  fronts : (c : Bool) (v : V) (ts us : Tokens) → Stopping c v ts us → Front Stopping c v ts us
  fronts c v ts us (inl m) = record { head = []; whole = m.1; again = λ x. inl (m.0, refl) }
  fronts c v [] us (inr m) = absurd m.1
  fronts c v (t ∷ ts) us (inr m) = let f = front_of v ts us m.1.1 in record { head = t ∷ f.head; whole = ap (λ x. t ∷ x) f.whole; again = λ x. inr (m.0, (m.1.0, f.again x)) }

  weak : (c : Bool) (v : V) (ts us : Tokens) → Stopping true v ts us → Stopping c v ts us
  weak c v ts us (inl m) = inl m
  weak c v ts us (inr m) = absurd cc

  sounds : (us : Tokens) (b : Bool) (q : V × Tokens) → stopping b us ≡ Ok q → Stopping true q.0 us q.1
  sounds us true q e = absurd cc
  sounds us false q e = let h : (a, us) ≡ q = cc in inl (sym (ap (λ p. p.0) h), ap (λ p. p.1) h)

  looks_at : (t : Placed) (ts : Tokens) → test t ≡ true → look false test (t ∷ ts) ≡ Ok (true, t ∷ ts)
  unfolding look
  looks_at t ts e = ap (λ b. Ok (b, t ∷ ts)) e

  not_seen : (ts : Tokens) → IsNot test ts → look false test ts ≡ Ok (false, ts)
  unfolding look
  not_seen [] n = refl
  not_seen (t ∷ ts) n = ap (λ b. Ok (b, t ∷ ts)) n

  answers : (c : Bool) (v : V) (ts left : Tokens) → length ts < size → Stopping c v ts left → F left → Answers ((look false test >>= stopping) ts) v left (c ≡ true)
  answers c v ts left lt (inl m) g = answers_then (look false test ts) stopping false ts v left (c ≡ true) (inl (not_seen ts (subst (IsNot test) (sym m.1) (refuses left g)))) (inl (ap (λ y. Ok (a, y)) m.1 ∙ ap (λ w. Ok (w, left)) (sym m.0)))
  answers c v [] left lt (inr m) g = absurd m.1
  answers c v (t ∷ ts) left lt (inr m) g = answers_then (look false test (t ∷ ts)) stopping true (t ∷ ts) v left (c ≡ true) (inl (looks_at t ts (kind.seen t m.1.0))) (inr (record { unlawful = λ e. let h : true ≡ false = sym e ∙ m.0 in absurd cc; fault = (Deep, t ∷ ts); is = refl; kind = λ e. absurd cc }))

  stops_at : (t : Placed) (ts : Tokens) (b : Bool) (e : Fault × Tokens) → test t ≡ b → stopping b (t ∷ ts) ≡ Err e → Stops (Texts Stopping) (t ∷ ts) e
  stops_at t ts false e is h = absurd cc
  stops_at t ts true e is h =
      let d : (Deep, t ∷ ts) ≡ e = cc in
      subst (λ x. Stops (Texts Stopping) (t ∷ ts) x) d (record { front = []; whole = refl; more = []; begins = (a, inl (refl, refl)); through = record { token = t; cause = tt; tail = ts; at = refl; more = tokens; begins = (value, inr (refl, (kind.told t is, some_further))) } })

  stops : (ts : Tokens) (e : Fault × Tokens) → (look false test >>= stopping) ts ≡ Err e → Stops (Texts Stopping) ts e
  unfolding look
  stops [] e h = absurd cc
  stops (t ∷ ts) e h = stops_at t ts (test t) e refl h

  pub stopping_rule : Untold size F Stopping (λ c. look false test >>= stopping)
  stopping_rule = record {
    weaker = weak;
    front = fronts;
    sound = λ ts q e. let b = bind_ok (look false test ts) stopping q e in subst (λ x. Stopping true q.0 x q.1) (sym (look_ok false test ts b.0 b.1)) (sounds b.0.1 b.0.0 q b.2);
    complete = answers;
    value = a;
    tokens = [];
    some = inl (refl, refl);
    viable = λ ts e lt h. stops ts e h;
    local = λ c. bind_local (look false test) stopping (look_local false test) either_local;
  }
    where
      either_local : (b : Bool) → Local (stopping b)
      either_local true = fail_local Deep
      either_local false = pure_local a

-- a link of a chain
abbrev link : RawForm → RawForm → RawForm
link f g = raw_implies (place_of f) f g

abbrev pub before : ℕ → ℕ
before zero = zero
before (suc n) = n

pub low_before : (n : ℕ) → n ≤ suc (before n)
low_before zero = omega arith
low_before (suc n) = omega arith

pub chain_front : (d : ℕ) (f : RawForm) (c : Bool) (v : RawForm) (ts us : Tokens) → ChainText d f c v ts us → Front (ChainText d f) c v ts us
chain_front d f c v ts us w =
    let k = takes_front (listed_text Implies w.members) ts us w.spelled in
    record { head = k.head; whole = k.whole; again = λ x. record { members = w.members; ordered = w.ordered; means = w.means; fits = w.fits; spelled = takes_onto (listed_text Implies w.members) k.head x k.spelled } }

-- a hole alone
abbrev a_hole : Formula
a_hole = hole start

some_chain : (d : ℕ) (f : RawForm) → ChainText d f false (link f (raw_form a_hole)) (record { token = hole_token; place = start } ∷ []) []
some_chain d f = record { members = last (hole start); ordered = (omega arith, tt); means = refl; fits = tt; spelled = ((refl, refl), refl) }

module _ (size : ℕ) (inner : Cut → ℕ → Parser RawForm) where
  abbrev pub chain_of : ℕ → ℕ → RawForm → Cut → Parser RawForm
  chain_of depth n f c = chained (cutting c) (inner c) depth n f

  -- the rest of a chain after a member, where one may stand, and where none may
  abbrev GoesOn : (RawForm → Language RawForm) → RawForm → Joined RawForm → Language RawForm
  GoesOn Rest f j = Eats (word_token Implies) (Made (link f) (Rest j.formula)) (Nothing (link f j.formula))

  abbrev further_of : RawForm → Joined RawForm → RawForm → Tokens → Tokens → Type 0
  further_of f j = Made (link f) (ChainText 0 j.formula) false

  further_front : (f : RawForm) (j : Joined RawForm) (v : RawForm) (ts us : Tokens) → further_of f j v ts us → Front (λ c. further_of f j) true v ts us
  further_front f j v ts us m = let k = chain_front 0 j.formula false m.0 ts us m.2 in record { head = k.head; whole = k.whole; again = λ x. (m.0, m.1, k.again x) }

  abbrev Ends : RawForm → Joined RawForm → Language RawForm
  Ends f j c v ts us = Nothing (link f j.formula) c v ts us ⊎ ((c ≡ false) × AfterToken (word_token Implies) (λ ms. further_of f j v ms us) ts)

  -- where a depth is left
  goes_there : (d : ℕ) (f : RawForm) (c : Bool) (v : RawForm) (ts us : Tokens) → Then (JoinedText 2 (suc d)) (GoesOn (ChainText d) f) c v ts us → ChainText (suc d) f c v ts us
  goes_there d f c v ts us (j, [], t, inl m) = absurd m
  goes_there d f c v ts us (j, u ∷ ms, t, inl (is, (g, e, r))) =
      record {
        members = more t.tree r.members;
        ordered = (t.tight, t.ordered, r.ordered);
        means = e ∙ ap (link f) r.means ∙ ap (λ x. link f (raw_chain (place_of x) x r.members)) (ap (λ x. x.formula) t.means);
        fits = fit_two c (suc d) t.tree r.members (FitsChain r.members d) t.fits r.fits;
        spelled = takes_join (formula_text t.tree) (any (word_token Implies) ∷ listed_text Implies r.members) ts (u ∷ ms) us t.spelled (is, r.spelled);
      }
  goes_there d f c v ts us (j, ms, t, inr (e, q)) = record { members = last t.tree; ordered = (t.tight, t.ordered); means = e ∙ ap (λ x. link f x.formula) t.means; fits = t.fits; spelled = subst (Takes (formula_text t.tree) ts) q t.spelled }

  goes_back : (d : ℕ) (f : RawForm) (c : Bool) (v : RawForm) (ts us : Tokens) (members : Further) → AreOrdered members 2 → v ≡ raw_chain (place_of f) f members → Fitting c (FitSizes members × FitsChain members (suc d)) → Takes (listed_text Implies members) ts us → Then (JoinedText 2 (suc d)) (GoesOn (ChainText d) f) c v ts us
  goes_back d f c v ts us (last g) o e fit s = (joined_form g, us, record { tree = g; tight = o.0; ordered = o.1; means = refl; fits = fit; spelled = s }, inr (e, refl))
  goes_back d f c v ts us (more g gs) o e fit s =
      let k = takes_split (formula_text g) (any (word_token Implies) ∷ listed_text Implies gs) ts us s in (
        joined_form g,
        k.0,
        record { tree = g; tight = o.0; ordered = o.1; means = refl; fits = fit_first c (suc d) g gs (FitsChain gs d) fit; spelled = k.1 },
        inl (after_word Implies (listed_text Implies gs) (λ ns. Made (link f) (ChainText d (raw_form g)) c v ns us) k.0 us k.2
            (λ ns h. (raw_chain (place_of (raw_form g)) (raw_form g) gs, e, record { members = gs; ordered = o.2; means = refl; fits = fit_second c (suc d) g gs (FitsChain gs d) fit; spelled = h }))),
      )

  -- where none is
  ends_there : (f : RawForm) (c : Bool) (v : RawForm) (ts us : Tokens) → Then (JoinedText 2 0) (Ends f) c v ts us → ChainText 0 f c v ts us
  ends_there f c v ts us (j, ms, t, inl (e, q)) = record { members = last t.tree; ordered = (t.tight, t.ordered); means = e ∙ ap (λ x. link f x.formula) t.means; fits = t.fits; spelled = subst (Takes (formula_text t.tree) ts) q t.spelled }
  ends_there f c v ts us (j, [], t, inr (no_law, m)) = absurd m
  ends_there f c v ts us (j, u ∷ ms, t, inr (no_law, (is, (g, e, r)))) =
      record {
        members = more t.tree r.members;
        ordered = (t.tight, t.ordered, r.ordered);
        means = e ∙ ap (link f) r.means ∙ ap (λ x. link f (raw_chain (place_of x) x r.members)) (ap (λ x. x.formula) t.means);
        fits = unlawful (FitSizes (more t.tree r.members) × FitsChain (more t.tree r.members) 0) c no_law;
        spelled = takes_join (formula_text t.tree) (any (word_token Implies) ∷ listed_text Implies r.members) ts (u ∷ ms) us t.spelled (is, r.spelled);
      }

  ends_back : (f : RawForm) (c : Bool) (v : RawForm) (ts us : Tokens) (members : Further) → AreOrdered members 2 → v ≡ raw_chain (place_of f) f members → Fitting c (FitSizes members × FitsChain members 0) → Takes (listed_text Implies members) ts us → Then (JoinedText 2 0) (Ends f) c v ts us
  ends_back f c v ts us (last g) o e fit s = (joined_form g, us, record { tree = g; tight = o.0; ordered = o.1; means = refl; fits = fit; spelled = s }, inl (e, refl))
  ends_back f true v ts us (more g gs) o e fit s = absurd fit.1.1
  ends_back f false v ts us (more g gs) o e fit s =
      let k = takes_split (formula_text g) (any (word_token Implies) ∷ listed_text Implies gs) ts us s in (
        joined_form g,
        k.0,
        record { tree = g; tight = o.0; ordered = o.1; means = refl; fits = tt; spelled = k.1 },
        inr (
          refl,
          after_word Implies (listed_text Implies gs) (λ ns. further_of f (joined_form g) v ns us) k.0 us k.2
              (λ ns h. (raw_chain (place_of (raw_form g)) (raw_form g) gs, e, record { members = gs; ordered = o.2; means = refl; fits = tt; spelled = h })),
        ),
      )

  goes_follows : (Rest : RawForm → Language RawForm) (f : RawForm) (j : Joined RawForm) (c : Bool) (v : RawForm) (ms left : Tokens) → GoesOn Rest f j c v ms left → FollowsWhole left → FollowsAny ms
  goes_follows Rest f j c v [] left (inl m) g = absurd m
  goes_follows Rest f j c v (t ∷ ms) left (inl m) g = implies_follows t ms m.0
  goes_follows Rest f j c v ms left (inr m) g = subst FollowsAny (sym m.1) g.0

  ends_follows : (f : RawForm) (j : Joined RawForm) (c : Bool) (v : RawForm) (ms left : Tokens) → Ends f j c v ms left → FollowsWhole left → FollowsAny ms
  ends_follows f j c v ms left (inl m) g = subst FollowsAny (sym m.1) g.0
  ends_follows f j c v [] left (inr m) g = absurd m.1
  ends_follows f j c v (t ∷ ms) left (inr m) g = implies_follows t ms m.1.0

  -- at no depth a member is read of a hole alone
  abbrev bad : Cut
  bad t = Err Syntax

  module _ (at_zero : (c : Cut) → inner c 0 ≡ accept c) where
    never_read : (n : ℕ) (ts : Tokens) (q : Joined RawForm × Tokens) → either (cutting bad) (inner bad 0) n ts ≡ Ok q → ⊥
    unfolding either both
    never_read n ts q e =
        let j = bind_ok (both (cutting bad) (inner bad 0) n ts) _ q e in
        let f = bind_ok (inner bad 0 ts) _ j.0 j.1 in
        let k = accept_ok bad ts f.0 (ap (λ p. p ts) (sym (at_zero bad)) ∙ f.1) in
        absurd cc

    told_at : (n : ℕ) (f : Joined RawForm → Cut → Parser RawForm) (ts : Tokens) → Told false (λ c. either (cutting c) (inner c 0) n) ts → Told false (λ c. either (cutting c) (inner c 0) n >>= (λ j. f j c)) ts
    told_at n f ts (took a left front w cl all) = absurd (never_read n ts (a, left) (all bad))
    told_at n f ts (refused k us never all) = refused k us never (λ c. ap (λ o. and_then o (λ j. f j c)) (all c))
    told_at n f ts (cut_off front t us ne w cl all) = cut_off front t us ne w cl (λ c k b y e. ap (λ o. and_then o (λ j. f j c)) (all c k b y e))

    module _ (most : ℕ) (rules : (d : ℕ) → d ≤ most → Rule size false NoShift (FormulaText d) (λ c. inner c d)) where
      some_zero : (f : RawForm) → ChainText 0 f true (link f (raw_form a_hole)) (record { token = hole_token; place = start } ∷ []) []
      some_zero f = record { members = last (hole start); ordered = (omega arith, tt); means = refl; fits = (tt, tt); spelled = ((refl, refl), refl) }

      pub chained_rule : (depth n : ℕ) → depth ≤ most → n ≤ size → (f : RawForm) → Rule (before n) false FollowsWhole (ChainText depth f) (chain_of depth n f)
      unfolding chained last_link
      chained_rule depth zero deep low f = none_read depth f (some_any depth f deep)
        where
          none_read : (depth : ℕ) (f : RawForm) → ((v : RawForm) × (x : Tokens) × ChainText depth f true v x []) → Rule zero false FollowsWhole (ChainText depth f) (λ c. fail Syntax)
          none_read depth f s = record {
            weaker = λ c v ts us t. record { members = t.members; ordered = t.ordered; means = t.means; fits = weaker_fit (FitSizes t.members × FitsChain t.members depth) c t.fits; spelled = t.spelled };
            front = chain_front depth f;
            sound = λ ts q e. absurd cc;
            complete = λ c v ts left lt t g. absurd (omega (arith, lt));
            value = s.0;
            tokens = s.1;
            some = s.2;
            viable = λ ts e lt h. absurd (omega (arith, lt));
            local = λ c. fail_local Syntax;
            told = fail_tells false Syntax tt;
          }
            where
              weaker_fit : (P : Type 0) (c : Bool) → P → Fitting c P
              weaker_fit P true p = p
              weaker_fit P false p = tt

          some_any : (depth : ℕ) (f : RawForm) → depth ≤ most → (v : RawForm) × (x : Tokens) × ChainText depth f true v x []
          some_any zero f deep = (link f (raw_form a_hole), record { token = hole_token; place = start } ∷ [], some_zero f)
          some_any (suc d) f deep = let r = rules (suc d) deep in let w = r.some in (link f r.value, r.tokens, record { members = last w.tree; ordered = (omega (arith, w.tight), w.ordered); means = ap (link f) w.means; fits = w.fits; spelled = w.spelled })
      chained_rule zero (suc n) deep low f =
          as_rule (ChainText 0 f)
          (bind_with (λ j c. look false (is_word Implies) >>= (λ further. if further then fail Deep else pure (link f j.formula))) (either_rule n size 0 (omega (arith, low)) (λ c. inner c 0) (rules 0 (omega arith)))
          (λ j. stopping_rule n FollowsWhole (is_word Implies) (word_token Implies) (word_kind Implies) (link f j.formula) (further_of f j) (further_front f j) (link f (link j.formula (raw_form a_hole))) (record { token = hole_token; place = start } ∷ []) (link j.formula (raw_form a_hole), refl, some_chain 0 j.formula) (λ left g. g.1))
          (ends_follows f)
          (λ ts. told_at n (λ j c. look false (is_word Implies) >>= (λ further. if further then fail Deep else pure (link f j.formula))) ts ((either_rule n size 0 (omega (arith, low)) (λ c. inner c 0) (rules 0 (omega arith))).told ts)))
          (ends_there f) (λ c v ts us t. ends_back f c v ts us t.members t.ordered t.means t.fits t.spelled)
      chained_rule (suc d) (suc n) deep low f =
          alike_rule (chain_of (suc d) (suc n) f) (λ c ts. goes_on c d n f ts)
          (as_rule (ChainText (suc d) f)
          (bind_rule (λ j c. eat (is_word Implies) >>= (λ further. if further then (chain_of d n j.formula c >>= (λ g. pure (link f g))) else pure (link f j.formula))) (either_rule n size (suc d) (omega (arith, low)) (λ c. inner c (suc d)) (rules (suc d) deep))
          (λ j. eat_rule (λ further c. if further then (chain_of d n j.formula c >>= (λ g. pure (link f g))) else pure (link f j.formula)) (word_kind Implies) (low_before n)
          (map_rule (link f) (chained_rule d n (omega (arith, deep)) (omega (arith, low)) j.formula))
          (pure_rule n true FollowsWhole (link f j.formula)) (λ c v ts left m g. subst (IsNot (is_word Implies)) (sym m.1) g.1))
          (goes_follows (ChainText d) f))
          (goes_there d f) (λ c v ts us t. goes_back d f c v ts us t.members t.ordered t.means t.fits t.spelled))
        where
          goes_on : (c : Cut) (d n : ℕ) (f : RawForm) (ts : Tokens) → chain_of (suc d) (suc n) f c ts ≡ (either (cutting c) (inner c (suc d)) n >>= (λ j. eat (is_word Implies) >>= (λ further. if further then (chain_of d n j.formula c >>= (λ g. pure (link f g))) else pure (link f j.formula)))) ts
          goes_on c d n f ts =
              let some_left : (suc d == 0) ≡ false = eqb-suc-zero d in
              let one_less : suc d - 1 ≡ d = omega arith in
              ap (λ b. (either (cutting c) (inner c (suc d)) n >>= (λ j. if b then last_link (cutting c) f j else (eat (is_word Implies) >>= (λ further. if further then (chain_of (suc d - 1) n j.formula c >>= (λ g. pure (link f g))) else pure (link f j.formula))))) ts) some_left
              ∙ ap (λ k. (either (cutting c) (inner c (suc d)) n >>= (λ j. eat (is_word Implies) >>= (λ further. if further then (chain_of k n j.formula c >>= (λ g. pure (link f g))) else pure (link f j.formula)))) ts) one_less
