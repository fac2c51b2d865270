-- A formula is read by the way it begins.
use Rattle.std.proofs.Common.{◌≡◌, ◌-◌, ◌∙◌, ℕ, zero, suc, ◌==◌, false, true, List, [], ◌∷◌, map, refl, ap, sym, subst, Ok, Err, arith}
use Rattle.lrp_model.specs.declared.tokens.Place.{Place}
use Rattle.lrp_model.specs.Tokens.{Placed, Tokens}
use Rattle.lrp_model.specs.declared.tokens.Fault.{Fault}
use Rattle.lrp_model.specs.declared.tokens.Fault.TheVariants.{Syntax, Number, TextTooLong, Period, Deep, Memory}
use Rattle.lrp_model.specs.declared.raw.RawFormula.{RawFormula}
use Rattle.lrp_model.specs.RawQueries.{raw, raw_form_of, raw_forms_of}
use Rattle.lrp_text.specs.Parsers.{ParseOutcome, Reads, accept, look, taken}
use Rattle.lrp_text.specs.Taking.{here}
use Rattle.lrp_query.specs.declared.starts.Start.{Start}
use Rattle.lrp_query.specs.declared.starts.Start.TheVariants.{Not as by_not, Exists as by_exists, Forall as by_forall, Open as by_open, Name as by_name, Term as by_term}
use Rattle.lrp_query.specs.Rules.{Trees, AfterName, start_of, is_hole_token, too_deep, cut_at, started, formula_over, formula_with, raws}
use Rattle.lrp_model.specs.Queries.{Language, is_wide}
use Rattle.lrp_model.specs.Queries.Language.{first_order, temporal, wide}
use Rattle.lrp_model.specs.RawQueries.{RawForm, no_raws, raw_exists, raw_forall, raw_or}
use Rattle.lrp_model.specs.declared.tokens.Word.TheVariants.{Exists, Forall}
use Rattle.lrp_text.specs.Parsers.{Parser, and_then, pure}
use Rattle.lrp_text.specs.Taking.{expect_word, name}
use Rattle.lrp_query.specs.Rules.{member_of, named, negated, started_wide, unnamed, whole, wide_formula_over, wide_up_to}
use Rattle.lrp_query.specs.Grammars.{after_at, after_in, enclosed_at, existing_at, formula_in, holding_at, meant, operators_in, wide_after, wide_formula, wide_joined}
use Rattle.std.proofs.lemmas.Bool.{eq-eqb}
use Rattle.lrp_query.proofs.After.{alike}
use Rattle.lrp_query.proofs.WideParsers.{AgreeTo, after_same, enclosed_same, quantified_same, up_to_same, whole_same}
use Rattle.lrp_query.proofs.Shown.{cut_told}

-- a fault that a reader tells
fault_reads : {A : Type 0} (o : ParseOutcome A) (k : Fault) (us : Tokens) → o ≡ Err (k, us) → Reads o (Err k) us
fault_reads o Memory us e = tt
fault_reads o Syntax us e = e
fault_reads o Number us e = e
fault_reads o TextTooLong us e = e
fault_reads o Period us e = e
fault_reads o Deep us e = e

-- one outcome gives one value
one_read : {A : Type 0} (p q : A × Tokens) → ◌≡◌ {A = ParseOutcome A} (Ok p) (Ok q) → p ≡ q
one_read p q e = cc

module _ {K T F Q : Type 0} (make : Trees K T F Q) (after : AfterName F) where
  -- a formula of some depth
  pub formula_started : (depth turns : ℕ) (ts : Tokens) (p : Place) (s : Start) → (depth ≡ 0 → ⊥) → look false (λ t. is_hole_token t.token) ts ≡ Ok (false, ts) → here ts ≡ Ok (p, ts) → look by_term (λ t. start_of t.token) ts ≡ Ok (s, ts)
      → formula_with make after depth turns ts ≡ started make (after (formula_with make after (depth - 1) turns) turns) (formula_with make after (depth - 1) turns) turns p s ts
  unfolding formula_with formula_over
  formula_started zero turns ts p s some a b c = absurd (some refl)
  formula_started (suc depth) turns ts p s some a b c = let e : suc depth - 1 ≡ depth = omega arith in rw (e, a, b, c) refl

  -- no token but a hole is taken where a formula would be too deep
  cut_refused : (hole : Place → F) → ((t : Placed) → make.cut t ≡ cut_at (hole t.place) t.token) → (ts : Tokens) (k : Fault) → look Syntax (λ t. too_deep t.token) ts ≡ Ok (k, ts) → look false (λ t. is_hole_token t.token) ts ≡ Ok (false, ts) → accept make.cut ts ≡ Err (k, ts)
  unfolding look accept
  cut_refused hole cut [] k e n = ap Err (one_read (Syntax, []) (k, []) e)
  cut_refused hole cut (t ∷ us) k e n =
      let h = one_read (too_deep t.token, t ∷ us) (k, t ∷ us) e in
      let none = ap (λ p. p.0) (one_read (is_hole_token t.token, t ∷ us) (false, t ∷ us) n) in
      ap (λ r. taken r t us) (cut t ∙ cut_told (hole t.place) t.token none) ∙ ap Err h

  -- at depth 0 each token is refused
  pub formula_cut : (hole : Place → F) → ((t : Placed) → make.cut t ≡ cut_at (hole t.place) t.token) → (depth turns : ℕ) (ts : Tokens) (k : Fault) → depth ≡ 0 → look Syntax (λ t. too_deep t.token) ts ≡ Ok (k, ts) → look false (λ t. is_hole_token t.token) ts ≡ Ok (false, ts) → Reads (formula_with make after depth turns ts) (Err k) ts
  unfolding formula_with
  formula_cut hole cut depth turns ts k z e n = subst (λ d. Reads (formula_with make after d turns ts) (Err k) ts) (sym z) (fault_reads (accept make.cut ts) k ts (cut_refused hole cut ts k e n))

-- the raw formulas of a list
pub raws_of : (fs : List RawFormula) → raws (map raw_form_of fs) ≡ raw_forms_of fs
raws_of [] = refl
raws_of (f ∷ fs) = ap (raw (raw_form_of f)) (raws_of fs)

-- ---- formulas of each language, by the way they begin

-- what is read by it, with parts that are at most so deep
abbrev pub started_at : Language → ℕ → ℕ → Place → Start → Parser RawForm
started_at l depth turns p by_not = negated meant (formula_in l depth turns) p
started_at l depth turns p by_exists = existing_at l depth turns p
started_at l depth turns p by_forall = holding_at l depth turns p
started_at l depth turns p by_open = enclosed_at l depth turns p
started_at l depth turns p by_name = named (after_at l depth turns)
started_at l depth turns p by_term = unnamed (is_wide l) meant p

plain_start : (depth turns : ℕ) (p : Place) (s : Start) (ts : Tokens) → started meant (after_in first_order (formula_in first_order depth turns) turns) (formula_in first_order depth turns) turns p s ts ≡ started_at first_order depth turns p s ts
plain_start depth turns p by_not ts = refl
plain_start depth turns p by_exists ts = refl
plain_start depth turns p by_forall ts = refl
plain_start depth turns p by_open ts = refl
plain_start depth turns p by_name ts = refl
plain_start depth turns p by_term ts = refl

tense_start : (depth turns : ℕ) (p : Place) (s : Start) (ts : Tokens) → started meant (after_in temporal (formula_in temporal depth turns) turns) (formula_in temporal depth turns) turns p s ts ≡ started_at temporal depth turns p s ts
tense_start depth turns p by_not ts = refl
tense_start depth turns p by_exists ts = refl
tense_start depth turns p by_forall ts = refl
tense_start depth turns p by_open ts = refl
tense_start depth turns p by_name ts = refl
tense_start depth turns p by_term ts = refl

-- the parsers of the wide language up to a depth
abbrev below : ℕ → ℕ → ℕ → Parser RawForm
below turns = wide_up_to meant wide_after turns

wide_start : (depth turns : ℕ) (p : Place) (s : Start) (ts : Tokens) → started_wide meant (wide_after (below turns depth depth) (member_of (whole meant (below turns depth) depth turns)) turns) (below turns depth) depth turns p s ts ≡ started_at wide depth turns p s ts
unfolding named
wide_start depth turns p s ts = by s
  where
    agree : AgreeTo depth (below turns depth) (λ d. wide_formula d turns)
    agree = up_to_same meant wide_after turns depth

    outer : (us : Tokens) → member_of (whole meant (below turns depth) depth turns) us ≡ member_of (wide_joined depth turns) us
    outer us = ap (λ o. and_then o (λ j. pure j.formula)) (whole_same meant (below turns depth) (λ d. wide_formula d turns) depth turns agree us)

    by : (k : Start) → started_wide meant (wide_after (below turns depth depth) (member_of (whole meant (below turns depth) depth turns)) turns) (below turns depth) depth turns p k ts ≡ started_at wide depth turns p k ts
    by by_not = refl
    by by_exists = alike (expect_word Exists ts) _ _ (λ u us. quantified_same meant (below turns depth) (λ d. wide_formula d turns) raw_exists depth turns agree p us)
    by by_forall = alike (expect_word Forall ts) _ _ (λ u us. quantified_same meant (below turns depth) (λ d. wide_formula d turns) raw_forall depth turns agree p us)
    by by_open = enclosed_same meant (below turns depth) (λ d. wide_formula d turns) depth turns agree p ts
    by by_name = alike (name ts) _ _ (λ n us. after_same meant (operators_in wide) (member_of (whole meant (below turns depth) depth turns)) (member_of (wide_joined depth turns)) outer (below turns depth depth) turns n.0 n.1 us)
    by by_term = refl

pub started_in : (l : Language) (depth turns : ℕ) (ts : Tokens) (p : Place) (s : Start) → (depth ≡ 0 → ⊥) → look false (λ t. is_hole_token t.token) ts ≡ Ok (false, ts) → here ts ≡ Ok (p, ts) → look by_term (λ t. start_of t.token) ts ≡ Ok (s, ts) → formula_in l depth turns ts ≡ started_at l (depth - 1) turns p s ts
unfolding wide_up_to wide_formula_over
started_in first_order depth turns ts p s some a b c = formula_started meant (after_in first_order) depth turns ts p s some a b c ∙ plain_start (depth - 1) turns p s ts
started_in temporal depth turns ts p s some a b c = formula_started meant (after_in temporal) depth turns ts p s some a b c ∙ tense_start (depth - 1) turns p s ts
started_in wide zero turns ts p s some a b c = absurd (some refl)
started_in wide (suc depth) turns ts p s some a b c =
    let e : suc depth - 1 ≡ depth = omega arith in
    let same : (suc depth == suc depth) ≡ true = eq-eqb (suc depth) (suc depth) refl in
    rw (e, same, a, b, c) (wide_start depth turns p s ts)

-- at depth 0 each token is refused
pub cut_in : (l : Language) (depth turns : ℕ) (ts : Tokens) (k : Fault) → depth ≡ 0 → look Syntax (λ t. too_deep t.token) ts ≡ Ok (k, ts) → look false (λ t. is_hole_token t.token) ts ≡ Ok (false, ts) → Reads (formula_in l depth turns ts) (Err k) ts
unfolding wide_up_to
cut_in first_order depth turns ts k z e n = formula_cut meant (after_in first_order) (λ p. raw_or p no_raws) (λ t. refl) depth turns ts k z e n
cut_in temporal depth turns ts k z e n = formula_cut meant (after_in temporal) (λ p. raw_or p no_raws) (λ t. refl) depth turns ts k z e n
cut_in wide depth turns ts k z e n = subst (λ d. Reads (formula_in wide d turns ts) (Err k) ts) (sym z) (fault_reads (accept meant.cut ts) k ts (cut_refused meant (after_in first_order) (λ p. raw_or p no_raws) (λ t. refl) ts k e n))
