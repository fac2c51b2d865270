-- What is read of a formula of the wide language that stands alone, by how it begins.
use Rattle.std.proofs.Common.{◌≡◌, inl, inr, ◌≤◌, ℕ, suc, Bool, true, false, List, [], ◌∷◌, ◌++◌, map, refl, ap, sym, ◌∙◌, subst, Option, Some, None, arith}
use Rattle.std.specs.List.{AllByRecursion}
use Rattle.lrp_model.specs.Texts.{Identifier}
use Rattle.lrp_model.specs.declared.tokens.Symbol.TheVariants.{Close, Differs, Plus}
use Rattle.lrp_model.specs.declared.tokens.Word.TheVariants.{Exists, Forall, Not, In, Letter}
use Rattle.lrp_model.specs.declared.tokens.Place.{Place}
use Rattle.lrp_model.specs.declared.formulas.Op.TheVariants.{Eq}
use Rattle.lrp_model.specs.declared.written.Integer.{Integer}
use Rattle.lrp_model.specs.declared.written.Located.{Located}
use Rattle.lrp_model.specs.declared.raw.RawTermKind.{RawTermKind}
use Rattle.lrp_model.specs.declared.raw.Ranged.{Ranged}
use Rattle.lrp_model.specs.declared.raw.Paired.{Paired}
use Rattle.lrp_model.specs.Limits.{greatest_number}
use Rattle.lrp_model.specs.Tokens.{Placed, Tokens, Part, IsPart, Takes, located_text, separated}
use Rattle.lrp_model.specs.Tokens.Token.{name_token, word_token, number_token, symbol_token}
use Rattle.lrp_model.specs.Tokens.Part.{at, any}
use Rattle.lrp_model.specs.Databases.{integer_text, comma}
use Rattle.lrp_model.specs.Refused.{Fitting}
use Rattle.lrp_model.specs.Queries.{WrittenTerm, WrittenArgument, term_text, argument_text, op_symbol, formula_text, FitsTerm, FitsArgument, looseness, IsOrdered, ranged_word, paired_word}
use Rattle.lrp_model.specs.Queries.Language.{wide}
use Rattle.lrp_model.specs.Queries.Quantifier.{existential, universal}
use Rattle.lrp_model.specs.Queries.WrittenTerm.{integer as integer_term, text_term, variable, shifted}
use Rattle.lrp_model.specs.Queries.WrittenFormula.{atom_formula, compared, member, denied, all_of, any_of, implied, group, some, every, ranged, paired, differing, several, bare_all, bare_any, bare_chain, chain, hole}
use Rattle.lrp_model.specs.QueryMeaning.{term_kind, raw_term, raw_argument, raw_form}
use Rattle.lrp_model.specs.RawQueries.{RawForm, Operator, raw_atom, raw_compare, raw_member, raw_not}
use Rattle.lrp_text.specs.Parsers.{Parser, ◌>>=◌, pure, accept}
use Rattle.lrp_text.specs.Taking.{IsWrittenPeriod}
use Rattle.lrp_text.specs.OffsetRule.{unmoved, moved_by}
use Rattle.lrp_text.proofs.Sound.{takes_join, takes_split}
use Rattle.lrp_text.proofs.Viable.{always, fits_as}
use Rattle.lrp_text.proofs.TokenTests.{name_part}
use Rattle.lrp_text.proofs.OffsetRule.{NoShift, FitsOffset}
use Rattle.lrp_text.proofs.LocatedRule.{from_place}
use Rattle.lrp_query.specs.declared.starts.Start.{Start}
use Rattle.lrp_query.specs.declared.starts.Start.TheVariants.{Not as by_not, Exists as by_exists, Forall as by_forall, Open as by_open, Name as by_name, Term as by_term}
use Rattle.lrp_query.specs.declared.words.Leading.{Leading}
use Rattle.lrp_query.specs.declared.words.Leading.TheVariants.{OfRange, OfPair}
use Rattle.lrp_query.specs.Rules.{with_offset, member_of, whole, negated, named, unnamed, tested, quantified, start_of, started_wide, point_of}
use Rattle.lrp_query.specs.OperatorRules.{with_wide_operators}
use Rattle.lrp_query.specs.Grammars.{word_of, operators_in}
use Rattle.lrp_query.proofs.Languages.{FitsAt}
use Rattle.lrp_query.proofs.TermRules.{placed_text, term_leads, with_offset_fits}
use Rattle.lrp_query.proofs.TestRules.{placed_offset, empty_leads}
use Rattle.lrp_query.proofs.WideTold.{Cut}
use Rattle.lrp_query.proofs.WideRule.{Language, Rule, sooner_rule, Then, bind_rule, Made, map_rule, After, token_rule}
use Rattle.lrp_query.proofs.WideTerms.{word_rule, name_rule, Unnamed, unnamed_rule, term_of, Begins}
use Rattle.lrp_query.proofs.WideWritten.{Formula, FormulaText}
use Rattle.lrp_query.proofs.WideLevels.{cutting}
use Rattle.lrp_query.proofs.WideWhole.{EnclosedText, inside_there, enclosed_back, enclosed_rule, part_rule, close_takes, close_back}
use Rattle.lrp_query.proofs.WideBinders.{QuantifiedText, quantified_there, quantified_of, quantified_rule}
use Rattle.lrp_query.proofs.WideTests.{TestText, test_rule, test_there, compared_back, differing_back, member_back, given_there, given_back, PlainText}
use Rattle.lrp_query.proofs.WideOperators.{HasWord, word_told, ranged_again, paired_again, OperatorText, AfterText, Operated, ranged_there, paired_there, ranged_back, paired_back, after_rule}

-- what is read of a formula that begins so
abbrev pub StartText : ℕ → Place → Start → Language RawForm
StartText d p by_not = After (λ (u : Unit {0}). any (word_token Not)) (λ u. Unit {0}) (λ u. Made (raw_not p) (FormulaText d))
StartText d p by_exists = After (λ (u : Unit {0}). any (word_token Exists)) (λ u. Unit {0}) (λ u. QuantifiedText d existential p)
StartText d p by_forall = After (λ (u : Unit {0}). any (word_token Forall)) (λ u. Unit {0}) (λ u. QuantifiedText d universal p)
StartText d p by_open = EnclosedText d p
StartText d p by_name = After name_part (λ v. Unit {0}) (λ n. AfterText d n.0 n.1)
StartText d p by_term = Then Unnamed (λ k. TestText (term_of p k))

module _ (size most d : ℕ) (low : d ≤ most) (inner : Cut → ℕ → Parser RawForm) (at_zero : (c : Cut) → inner c 0 ≡ accept c) (rules : (d : ℕ) → d ≤ most → Rule size false NoShift (FormulaText d) (λ c. inner c d)) where
  -- after a name
  abbrev pub after_of : Cut → Identifier → Place → Parser RawForm
  after_of c = with_wide_operators (cutting c) (operators_in wide) (inner c d) (member_of (whole (cutting c) (inner c) d size)) size

  pub start_rule : (p : Place) (s : Start) → Rule size true NoShift (StartText d p s) (λ c. started_wide (cutting c) (after_of c) (inner c) d size p s)
  unfolding negated named unnamed
  start_rule p by_not = token_rule (λ u c. inner c d >>= (λ f. pure (raw_not p f))) (word_rule Not) (λ u. map_rule (raw_not p) (rules d low))
  start_rule p by_exists = token_rule (λ u c. quantified (cutting c).formulas.existential (inner c) d size p) (word_rule Exists) (λ u. sooner_rule true (quantified_rule size most d inner rules low existential p))
  start_rule p by_forall = token_rule (λ u c. quantified (cutting c).formulas.universal (inner c) d size p) (word_rule Forall) (λ u. sooner_rule true (quantified_rule size most d inner rules low universal p))
  start_rule p by_open = enclosed_rule size most inner at_zero rules d low p
  start_rule p by_name = token_rule (λ n c. after_of c n.0 n.1) name_rule (λ n. sooner_rule true (after_rule size d (λ c. inner c d) (λ c. member_of (whole (cutting c) (inner c) d size)) (rules d low) (part_rule size most inner at_zero rules d low) n.0 n.1))
  start_rule p by_term = bind_rule (λ k c. tested true (cutting c) (term_of p k)) (unnamed_rule size) (λ k. test_rule size (term_of p k)) (λ k c v ms left t g. tt)

-- ---- trees of what is read

-- a tree of it; it means this where the tokens begin at the place
pub record Started (d : ℕ) (p : Place) (c : Bool) (v : RawForm) (ts us : Tokens) : Type 0 where
  pub tree : Formula
  pub tight : looseness tree ≤ 0
  pub ordered : IsOrdered tree
  pub means : Begins p ts → v ≡ raw_form tree
  pub fits : Fitting c (FitsAt (suc d) tree)
  pub spelled : Takes (formula_text tree) ts us

-- a test after a term at another place
test_moved : (p q : Place) (k : RawTermKind) (c : Bool) (v : RawForm) (ms us : Tokens) → TestText (term_of p k) c v ms us → (w : RawForm) × (q ≡ p → v ≡ w) × TestText (term_of q k) c w ms us
test_moved p q k c v [] us (inl t) = absurd t
test_moved p q k c v (t ∷ ks) us (inl (is, (i, [], n, r))) = absurd r
test_moved p q k c v (t ∷ ks) us (inl (is, (i, x ∷ [], n, (u, plus, r)))) = absurd r
test_moved p q k c v (t ∷ ks) us (inl (is, (i, x ∷ y ∷ [], n, (u, plus, (j, number, r))))) = absurd r
test_moved p q k c v (t ∷ ks) us (inl (is, (i, x ∷ y ∷ z ∷ ws, n, (u, plus, (j, number, (w, letter, (e, r))))))) =
    (raw_member q (term_of q k) (point_of i j), (λ s. e ∙ ap (λ o. raw_member o (term_of o k) (point_of i j)) (sym s)), inl (is, (i, x ∷ y ∷ z ∷ ws, n, (u, plus, (j, number, (w, letter, (refl, r)))))))
test_moved p q k c v [] us (inr (inl t)) = absurd t
test_moved p q k c v (t ∷ ks) us (inr (inl (is, (r, e, w)))) = (raw_not q (raw_compare q (term_of q k) Eq r), (λ s. e ∙ ap (λ o. raw_not o (raw_compare o (term_of o k) Eq r)) (sym s)), inr (inl (is, (r, refl, w))))
test_moved p q k c v [] us (inr (inr t)) = absurd t
test_moved p q k c v (t ∷ ks) us (inr (inr (op, is, (r, e, w)))) = (raw_compare q (term_of q k) op r, (λ s. e ∙ ap (λ o. raw_compare o (term_of o k) op r) (sym s)), inr (inr (op, is, (r, refl, w))))

abbrev atom_tree : Place → Identifier → List (Located (WrittenArgument wide)) → Formula
atom_tree p n xs = atom_formula p n xs

operator_there : (d : ℕ) (o : Option (Leading Ranged Paired)) (n : Identifier) (p : Place) (c : Bool) (v : RawForm) (t : Placed) (ts us : Tokens) → HasWord n o → IsPart (at p (name_token n)) t → OperatorText d o p c v ts us → Operated d c v (t ∷ ts) us
operator_there d (Some (OfRange word)) n p c v t ts us has is r = ranged_there d word p c v t ts us (is.0 ∙ ap name_token has, is.1) r
operator_there d (Some (OfPair word)) n p c v t ts us has is r = paired_there d word p c v t ts us (is.0 ∙ ap name_token has, is.1) r
operator_there d None n p c v t ts us has is r = absurd r

plain_there : (d : ℕ) (n : Identifier) (p : Place) (c : Bool) (v : RawForm) (t : Placed) (ts us : Tokens) → IsPart (at p (name_token n)) t → PlainText n p c v ts us → Operated d c v (t ∷ ts) us
plain_there d n p c v t [] us is (inl r) = absurd r
plain_there d n p c v t (x ∷ ts) us is (inl (opens, (xs, ms, args, closes))) =
    let g = given_there c xs ts ms args in
    let k = close_takes (raw_atom p n xs) v c ms us closes in
    record {
      tree = atom_formula p n g.items;
      tight = omega arith;
      ordered = tt;
      means = k.1 ∙ ap (raw_atom p n) g.means;
      fits = fits_as (AllByRecursion (λ (a : Located (WrittenArgument wide)). FitsArgument a.item) g.items) (FitsAt (suc d) (atom_tree p n g.items)) c (λ h. (h, tt)) g.fits;
      spelled = (is, (opens, takes_join (separated comma (located_text argument_text) g.items) (any (symbol_token Close) ∷ []) ts ms us g.spelled k.0));
    }
plain_there d n p c v t ts us is (inr (k, ms, (o, e, (fit, s)), test)) =
    let l : Located WrittenTerm = record { item = with_offset n o; place = p } in
    let one : Takes (placed_text l) (t ∷ ts) ms = subst (λ ps. Takes ps (t ∷ ts) ms) (sym (placed_offset p n o)) (is, s) in
    let f = test_there l c v (t ∷ ts) ms us one (fits_as (FitsOffset o) (FitsTerm (with_offset n o)) c (with_offset_fits n o) fit) (subst (λ x. TestText (term_of p x) c v ms us) e test) in
    record { tree = f.tree; tight = f.tight; ordered = f.ordered; means = f.means; fits = f.fits d; spelled = f.spelled }

after_there : (d : ℕ) (n : Identifier) (p : Place) (c : Bool) (v : RawForm) (t : Placed) (ts us : Tokens) → IsPart (at p (name_token n)) t → AfterText d n p c v ts us → Operated d c v (t ∷ ts) us
after_there d n p c v t ts us is (inl r) = operator_there d (word_of n) n p c v t ts us (word_told n) is r
after_there d n p c v t ts us is (inr r) = plain_there d n p c v t ts us is r

pub start_there : (d : ℕ) (p : Place) (s : Start) (c : Bool) (v : RawForm) (ts us : Tokens) → StartText d p s c v ts us → Started d p c v ts us
start_there d p by_not c v [] us r = absurd r
start_there d p by_exists c v [] us r = absurd r
start_there d p by_forall c v [] us r = absurd r
start_there d p by_open c v [] us r = absurd r
start_there d p by_name c v [] us r = absurd r
start_there d p by_term c v [] us (k, ms, un, test) = absurd (empty_leads (term_text un.item) ms (term_leads un.item) un.spelled)
start_there d p by_not c v (t ∷ ts) us (u, is, (f, e, w)) =
    record {
      tree = denied t.place w.tree;
      tight = omega arith;
      ordered = (w.tight, w.ordered);
      means = λ b. e ∙ ap (raw_not p) w.means ∙ ap (λ q. raw_not q (raw_form w.tree)) (sym b);
      fits = w.fits;
      spelled = ((is.0, refl), w.spelled);
    }
start_there d p by_exists c v (t ∷ ts) us (u, is, r) = let w = quantified_there d existential p t.place c v t ts us (is.0, refl) r in record { tree = w.0; tight = w.1; ordered = w.2; means = w.3; fits = w.4; spelled = w.5 }
start_there d p by_forall c v (t ∷ ts) us (u, is, r) = let w = quantified_there d universal p t.place c v t ts us (is.0, refl) r in record { tree = w.0; tight = w.1; ordered = w.2; means = w.3; fits = w.4; spelled = w.5 }
start_there d p by_open c v (t ∷ ts) us (u, is, r) = let w = inside_there d p t.place c v t ts us (is.0, refl) r in record { tree = w.0; tight = w.1; ordered = w.2; means = w.3; fits = w.4; spelled = w.5 }
start_there d p by_name c v (t ∷ ts) us (n, is, r) = let w = after_there d n.0 n.1 c v t ts us is.0 r in record { tree = w.tree; tight = w.tight; ordered = w.ordered; means = λ b. w.means; fits = w.fits; spelled = w.spelled }
start_there d p by_term c v (t ∷ ts) us (k, ms, un, test) =
    let l : Located WrittenTerm = record { item = un.item; place = t.place } in
    let one : Takes (placed_text l) (t ∷ ts) ms = from_first un.item t ts ms un.spelled in
    let moved = test_moved p t.place k c v ms us test in
    let f = test_there l c moved.0 (t ∷ ts) ms us one un.fits (subst (λ x. TestText (term_of t.place x) c moved.0 ms us) un.means moved.2) in
    record { tree = f.tree; tight = f.tight; ordered = f.ordered; means = λ b. moved.1 b ∙ f.means; fits = f.fits d; spelled = f.spelled }
  where
    from_first : (item : WrittenTerm) (t : Placed) (ts ms : Tokens) → Takes (term_text item) (t ∷ ts) ms → Takes (placed_text (record { item = item; place = t.place })) (t ∷ ts) ms
    from_first item t ts ms s = from_place t.place (term_text item) t ts ms (term_leads item) refl s

-- ---- what is read of trees

-- by the place and the first token
at_start : (d : ℕ) (p : Place) (s : Start) (c : Bool) (v : RawForm) (t : Placed) (ts us : Tokens) → t.place ≡ p → start_of t.token ≡ s → StartText d p s c v (t ∷ ts) us → StartText d t.place (start_of t.token) c v (t ∷ ts) us
at_start d p s c v t ts us e b r = subst (λ q. StartText d q (start_of t.token) c v (t ∷ ts) us) (sym e) (subst (λ z. StartText d p z c v (t ∷ ts) us) (sym b) r)

-- a term that begins a formula, and a test after it
side_back : (d : ℕ) (c : Bool) (v : RawForm) (p : Place) (item : WrittenTerm) (t : Placed) (ts ms us : Tokens) → Takes (placed_text (record { place = p; item = item })) (t ∷ ts) ms → Fitting c (FitsTerm item) → TestText (raw_term (record { place = p; item = item })) c v ms us → StartText d t.place (start_of t.token) c v (t ∷ ts) us
side_back d c v p (variable n) t ts ms us s fit test = at_start d p by_name c v t ts us s.0.1 (ap start_of s.0.0) ((n, p), (s.0, always (Unit {0}) c tt), inr (inr (term_kind (variable n), ms, (unmoved, refl, (fit, s.1)), test)))
side_back d c v p (shifted n down k) t ts ms us s fit test = at_start d p by_name c v t ts us s.0.1 (ap start_of s.0.0) ((n, p), (s.0, always (Unit {0}) c tt), inr (inr (term_kind (shifted n down k), ms, (moved_by down k, refl, (fit, s.1)), test)))
side_back d c v p (text_term x) t ts ms us s fit test = at_start d p by_term c v t ts us s.0.1 (ap start_of s.0.0) (term_kind (text_term x), ms, record { item = text_term x; is = tt; means = refl; fits = fit; spelled = (s.0.0, s.1) }, test)
side_back d c v p (integer_term i) t ts ms us s fit test = number_back i.negative i.size s fit test
  where
    number_back : (negative : Bool) (n : ℕ) → Takes (placed_text (record { place = p; item = integer_term (record { negative = negative; size = n }) })) (t ∷ ts) ms → Fitting c (n ≤ greatest_number) → TestText (raw_term (record { place = p; item = integer_term (record { negative = negative; size = n }) })) c v ms us → StartText d t.place (start_of t.token) c v (t ∷ ts) us
    number_back true n s fit test = at_start d p by_term c v t ts us s.0.1 (ap start_of s.0.0) (term_kind (integer_term (record { negative = true; size = n })), ms, record { item = integer_term (record { negative = true; size = n }); is = tt; means = refl; fits = fit; spelled = (s.0.0, s.1) }, test)
    number_back false n s fit test = at_start d p by_term c v t ts us s.0.1 (ap start_of s.0.0) (term_kind (integer_term (record { negative = false; size = n })), ms, record { item = integer_term (record { negative = false; size = n }); is = tt; means = refl; fits = fit; spelled = (s.0.0, s.1) }, test)

-- the sides of a test
fit_left : (c : Bool) (P Q : Type 0) → Fitting c (P × Q) → Fitting c P
fit_left true P Q h = h.0
fit_left false P Q h = tt

abbrev ranged_form : Ranged → Operator → Integer → Integer → Formula → Formula
ranged_form word q a b f = ranged tt word q a b f

abbrev paired_form : Paired → Operator → Formula → Formula → Formula
paired_form word q f g = paired tt word q f g

abbrev pub NotHole : Formula → Type 0
NotHole (hole p) = ⊥
NotHole _ = Unit {0}

-- a name, and what stands after it
after_name_back : (d : ℕ) (c : Bool) (v : RawForm) (n : Identifier) (p : Place) (t : Placed) (ts us : Tokens) → IsPart (at p (name_token n)) t → AfterText d n p c v ts us → StartText d t.place (start_of t.token) c v (t ∷ ts) us
after_name_back d c v n p t ts us is r = at_start d p by_name c v t ts us is.1 (ap start_of is.0) ((n, p), (is, always (Unit {0}) c tt), r)

pub start_back : (d : ℕ) (c : Bool) (w : Formula) (t : Placed) (ts us : Tokens) → NotHole w → looseness w ≤ 0 → IsOrdered w → Fitting c (FitsAt (suc d) w) → Takes (formula_text w) (t ∷ ts) us → StartText d t.place (start_of t.token) c (raw_form w) (t ∷ ts) us
start_back d c (hole p) t ts us real low o fit s = absurd real
start_back d c (bare_all x f fs) t ts us real low o fit s = absurd (omega (arith, low))
start_back d c (bare_any x f fs) t ts us real low o fit s = absurd (omega (arith, low))
start_back d c (bare_chain x f fs) t ts us real low o fit s = absurd (omega (arith, low))
start_back d c (denied p f) t ts us real low o fit s = at_start d p by_not c (raw_not p (raw_form f)) t ts us s.0.1 (ap start_of s.0.0) (tt, (s.0.0, always (Unit {0}) c tt), (raw_form f, refl, record { tree = f; tight = o.0; ordered = o.1; means = refl; fits = fit; spelled = s.1 }))
start_back d c (all_of p f fs) t ts us real low o fit s = at_start d p by_open c _ t ts us s.0.1 (ap start_of s.0.0) (enclosed_back d c p (t ∷ ts) us (all_of p f fs) tt o fit s p refl)
start_back d c (any_of p f fs) t ts us real low o fit s = at_start d p by_open c _ t ts us s.0.1 (ap start_of s.0.0) (enclosed_back d c p (t ∷ ts) us (any_of p f fs) tt o fit s p refl)
start_back d c (implied p f g) t ts us real low o fit s = at_start d p by_open c _ t ts us s.0.1 (ap start_of s.0.0) (enclosed_back d c p (t ∷ ts) us (implied p f g) tt o fit s p refl)
start_back d c (chain x p f g fs) t ts us real low o fit s = at_start d p by_open c _ t ts us s.0.1 (ap start_of s.0.0) (enclosed_back d c p (t ∷ ts) us (chain x p f g fs) tt o fit s p refl)
start_back d c (group p f) t ts us real low o fit s = at_start d p by_open c _ t ts us s.0.1 (ap start_of s.0.0) (enclosed_back d c p (t ∷ ts) us (group p f) tt o fit s p refl)
start_back d c (some p b f) t ts us real low o fit s = at_start d p by_exists c _ t ts us s.0.1 (ap start_of s.0.0) (tt, (s.0.0, always (Unit {0}) c tt), quantified_of d existential p c [] b f ts us o.0 o.1 (subst (λ k. Fitting c (FitsAt k f)) (omega arith) fit) s.1)
start_back d c (every p b f) t ts us real low o fit s = at_start d p by_forall c _ t ts us s.0.1 (ap start_of s.0.0) (tt, (s.0.0, always (Unit {0}) c tt), quantified_of d universal p c [] b f ts us o.0 o.1 (subst (λ k. Fitting c (FitsAt k f)) (omega arith) fit) s.1)
start_back d c (several x existential p ns b f) t ts us real low o fit s = at_start d p by_exists c _ t ts us s.0.1 (ap start_of s.0.0) (tt, (s.0.0, always (Unit {0}) c tt), quantified_of d existential p c (ns.first ∷ ns.others) b f ts us o.0 o.1 fit s.1)
start_back d c (several x universal p ns b f) t ts us real low o fit s = at_start d p by_forall c _ t ts us s.0.1 (ap start_of s.0.0) (tt, (s.0.0, always (Unit {0}) c tt), quantified_of d universal p c (ns.first ∷ ns.others) b f ts us o.0 o.1 fit s.1)
start_back d c (ranged x word q a b f) t ts us real low o fit s = after_name_back d c _ (ranged_word word) q.place t ts us s.0 (inl (subst (λ z. OperatorText d z q.place c (raw_form (ranged_form word q a b f)) ts us) (sym (ranged_again word)) (ranged_back d c word q a b f t ts us o.0 o.1 fit s)))
start_back d c (paired x word q f g) t ts us real low o fit s = after_name_back d c _ (paired_word word) q.place t ts us s.0 (inl (subst (λ z. OperatorText d z q.place c (raw_form (paired_form word q f g)) ts us) (sym (paired_again word)) (paired_back d c word q f g t ts us o.0 o.1 fit s)))
start_back d c (atom_formula p n xs) t [] us real low o fit s = absurd s.1
start_back d c (atom_formula p n xs) t (u ∷ ts) us real low o fit s =
    let k = takes_split (separated comma (located_text argument_text) xs) (any (symbol_token Close) ∷ []) ts us s.1.1 in
    after_name_back d c _ n p t (u ∷ ts) us s.0 (inr (inl (s.1.0, (map raw_argument xs, k.0, given_back c xs ts k.0 (fit_left c (AllByRecursion (λ (a : Located (WrittenArgument wide)). FitsArgument a.item) xs) (Unit {0}) fit) k.1, close_back (raw_atom p n (map raw_argument xs)) c k.0 us k.2))))
start_back d c (compared l op r) t ts us real low o fit s =
    let k = takes_split (placed_text l) (any (symbol_token (op_symbol op)) ∷ placed_text r) (t ∷ ts) us s in
    let sides = fit_left c (FitsTerm l.item × FitsTerm r.item) (Unit {0}) fit in
    side_back d c _ l.place l.item t ts k.0 us k.1 (fits_as (FitsTerm l.item × FitsTerm r.item) (FitsTerm l.item) c (λ h. h.0) sides) (compared_back c l op r k.0 us (fits_as (FitsTerm l.item × FitsTerm r.item) (FitsTerm r.item) c (λ h. h.1) sides) k.2)
start_back d c (differing x l r) t ts us real low o fit s =
    let k = takes_split (placed_text l) (any (symbol_token Differs) ∷ placed_text r) (t ∷ ts) us s in
    let sides = fit_left c (FitsTerm l.item × FitsTerm r.item) (Unit {0}) fit in
    side_back d c _ l.place l.item t ts k.0 us k.1 (fits_as (FitsTerm l.item × FitsTerm r.item) (FitsTerm l.item) c (λ h. h.0) sides) (differing_back c l r k.0 us (fits_as (FitsTerm l.item × FitsTerm r.item) (FitsTerm r.item) c (λ h. h.1) sides) k.2)
start_back d c (member l i k) t ts us real low o fit s =
    let rest : List Part = integer_text i ++ any (symbol_token Plus) ∷ any (number_token k) ∷ any (word_token Letter) ∷ [] in
    let m = takes_split (placed_text l) (any (word_token In) ∷ rest) (t ∷ ts) us s in
    let all = fit_left c (FitsTerm l.item × (i.size ≤ greatest_number) × (1 ≤ k) × (k ≤ greatest_number)) (Unit {0}) fit in
    side_back d c _ l.place l.item t ts m.0 us m.1 (fits_as (FitsTerm l.item × (i.size ≤ greatest_number) × (1 ≤ k) × (k ≤ greatest_number)) (FitsTerm l.item) c (λ h. h.0) all)
    (member_back c l i k m.0 us (fits_as (FitsTerm l.item × (i.size ≤ greatest_number) × (1 ≤ k) × (k ≤ greatest_number)) (i.size ≤ greatest_number) c (λ h. h.1) all) (fits_as (FitsTerm l.item × (i.size ≤ greatest_number) × (1 ≤ k) × (k ≤ greatest_number)) (IsWrittenPeriod k) c (λ h. (h.2, h.3)) all) m.2)
