-- The rounds in which an `and` is made: what each turn keeps all keep, and in the end nothing is left.
use Rattle.std.proofs.Common.{◌≡◌, ◌≤◌, ◌<◌, ◌+◌, ℕ, zero, suc, not, List, [], ◌∷◌, ◌++◌, length, Option, Some, None, slice_get, remove, filter, refl, ap, ◌∙◌, arith}
use Rattle.std.specs.List.{AllByRecursion}
use Rattle.std.proofs.lemmas.List.Edits.{length-remove}
use Rattle.lrp_model.specs.Formulas.{test}
use Rattle.lrp_model.specs.Variables.{free, are_among}
use Rattle.lrp_model.specs.Satisfaction.{Structure}
use Rattle.lrp_model.specs.Conjunctions.{Element, State, next_positive, take_positive, take_positives, take_test, take_tests, next_negation, take_negation, take_negations, take_all}
use Rattle.lrp_model.specs.declared.formulas.Test.{Test}
use Rattle.lrp_plan_laws.proofs.Elements.{found, within, first_within, filter_fewer}

-- ---- how many are left

-- where no element is chosen, there is none
none_there : {X : Type 0} (xs : List X) (i : ℕ) → slice_get xs i ≡ None → (0 < length xs → i < length xs) → length xs ≡ 0
none_there [] i e h = refl
none_there (x ∷ xs) i e h = let f = found (x ∷ xs) i (h (omega arith)) in let g : slice_get (x ∷ xs) i ≡ Some f.0 = f.1 in cc

-- one that is taken out leaves one fewer
pub one_fewer : {X : Type 0} (xs : List X) (i : ℕ) (x : X) (rounds : ℕ) → slice_get xs i ≡ Some x → length xs ≤ suc rounds → length (remove xs i) ≤ rounds
one_fewer xs i x rounds e le = let l : length (remove xs i) + 1 ≡ length xs = length-remove xs i (within xs i x e) in omega arith

-- a round for a positive leaves fewer
positive_gone : (M : Structure) (i : ℕ) (o : Option Element) (state : State) (rounds : ℕ) → slice_get state.positives i ≡ o → (0 < length state.positives → i < length state.positives) → length state.positives ≤ suc rounds
    → length (take_positive M i o state).positives ≤ rounds
positive_gone M i None state rounds e h le = let z : length state.positives ≡ 0 = none_there state.positives i e h in omega arith
positive_gone M i (Some x) state rounds e h le = one_fewer state.positives i x rounds e le

-- in as many rounds none is left
positives_gone : (rounds : ℕ) (M : Structure) (state : State) → length state.positives ≤ rounds → length (take_positives rounds M state).positives ≡ 0
positives_gone zero M state le = omega arith
positives_gone (suc rounds) M state le =
    positives_gone rounds M (take_positive M (next_positive state) (slice_get state.positives (next_positive state)) state)
    (positive_gone M (next_positive state) (slice_get state.positives (next_positive state)) state rounds refl (first_within _ state.positives) le)

-- a round for a test leaves fewer
test_gone : (M : Structure) (ts : List Test) (state : State) (rounds : ℕ) → state.tests ≡ ts → length ts ≤ suc rounds → length (take_test M ts state).tests ≤ rounds
test_gone M [] state rounds e le = let z : length state.tests ≡ 0 = ap length e in omega arith
test_gone M (t ∷ ts) state rounds e le =
    let f : length (filter (λ u. not (are_among (free (test u)) (state.taken.variables ++ free (test t)))) ts) ≤ length ts = filter_fewer _ ts in
    let g : length ts ≤ rounds = omega arith in omega arith

-- in as many rounds none is left
tests_gone : (rounds : ℕ) (M : Structure) (state : State) → length state.tests ≤ rounds → length (take_tests rounds M state).tests ≡ 0
tests_gone zero M state le = omega arith
tests_gone (suc rounds) M state le = tests_gone rounds M (take_test M state.tests state) (test_gone M state.tests state rounds refl le)

-- a round for a negation leaves fewer
negation_gone : (M : Structure) (i : ℕ) (o : Option Element) (state : State) (rounds : ℕ) → slice_get state.negations i ≡ o → (0 < length state.negations → i < length state.negations) → length state.negations ≤ suc rounds
    → length (take_negation M i o state).negations ≤ rounds
negation_gone M i None state rounds e h le = let z : length state.negations ≡ 0 = none_there state.negations i e h in omega arith
negation_gone M i (Some x) state rounds e h le = one_fewer state.negations i x rounds e le

-- in as many rounds none is left
negations_gone : (rounds : ℕ) (M : Structure) (state : State) → length state.negations ≤ rounds → length (take_negations rounds M state).negations ≡ 0
negations_gone zero M state le = omega arith
negations_gone (suc rounds) M state le =
    negations_gone rounds M (take_negation M (next_negation state) (slice_get state.negations (next_negation state)) state)
    (negation_gone M (next_negation state) (slice_get state.negations (next_negation state)) state rounds refl (first_within _ state.negations) le)

-- what a round leaves alone
test_keeps : (M : Structure) (ts : List Test) (state : State) → (take_test M ts state).positives ≡ state.positives
test_keeps M [] state = refl
test_keeps M (t ∷ ts) state = refl

-- all rounds for tests leave the positives alone
tests_keep : (rounds : ℕ) (M : Structure) (state : State) → (take_tests rounds M state).positives ≡ state.positives
tests_keep zero M state = refl
tests_keep (suc rounds) M state = tests_keep rounds M (take_test M state.tests state) ∙ test_keeps M state.tests state

-- a round for a negation leaves positives and tests alone
negation_keeps : (M : Structure) (i : ℕ) (o : Option Element) (state : State) → ((take_negation M i o state).positives ≡ state.positives) × ((take_negation M i o state).tests ≡ state.tests)
negation_keeps M i None state = (refl, refl)
negation_keeps M i (Some x) state = (refl, refl)

-- and so do all of them
negations_keep : (rounds : ℕ) (M : Structure) (state : State) → ((take_negations rounds M state).positives ≡ state.positives) × ((take_negations rounds M state).tests ≡ state.tests)
negations_keep zero M state = (refl, refl)
negations_keep (suc rounds) M state =
    let a = negation_keeps M (next_negation state) (slice_get state.negations (next_negation state)) state in
    let b = negations_keep rounds M (take_negation M (next_negation state) (slice_get state.negations (next_negation state)) state) in
    (b.0 ∙ a.0, b.1 ∙ a.1)

-- ---- what is kept

-- after all rounds: what was kept, and nothing is left
pub record Finishes (M : Structure) (kept : State → Type 0) (state : State) : Type 0 where
  pub last : State
  pub is : last.steps ≡ take_all M state
  pub holds : kept last
  pub positives : length last.positives ≡ 0
  pub tests : length last.tests ≡ 0
  pub negations : length last.negations ≡ 0

module _ (M : Structure) (kept : State → Type 0)
    (by_positive : (i : ℕ) (e : Element) (state : State) → slice_get state.positives i ≡ Some e → kept state → kept (take_positive M i (Some e) state))
    (by_test : (t : Test) (ts : List Test) (state : State) → state.tests ≡ t ∷ ts → kept state → kept (take_test M (t ∷ ts) state))
    (by_negation : (i : ℕ) (e : Element) (state : State) → slice_get state.negations i ≡ Some e → kept state → kept (take_negation M i (Some e) state)) where
  -- a round for a positive keeps it, also where there is none
  positive_round : (i : ℕ) (o : Option Element) (state : State) → slice_get state.positives i ≡ o → kept state → kept (take_positive M i o state)
  positive_round i None state e h = h
  positive_round i (Some x) state e h = by_positive i x state e h

  -- a round for a test does
  test_round : (ts : List Test) (state : State) → state.tests ≡ ts → kept state → kept (take_test M ts state)
  test_round [] state e h = h
  test_round (t ∷ ts) state e h = by_test t ts state e h

  -- a round for a negation does
  negation_round : (i : ℕ) (o : Option Element) (state : State) → slice_get state.negations i ≡ o → kept state → kept (take_negation M i o state)
  negation_round i None state e h = h
  negation_round i (Some x) state e h = by_negation i x state e h

  -- all rounds for positives keep it
  positive_rounds : (rounds : ℕ) (state : State) → kept state → kept (take_positives rounds M state)
  positive_rounds zero state h = h
  positive_rounds (suc rounds) state h = positive_rounds rounds _ (positive_round (next_positive state) (slice_get state.positives (next_positive state)) state refl h)

  -- all rounds for tests do
  test_rounds : (rounds : ℕ) (state : State) → kept state → kept (take_tests rounds M state)
  test_rounds zero state h = h
  test_rounds (suc rounds) state h = test_rounds rounds _ (test_round state.tests state refl h)

  -- all rounds for negations do
  negation_rounds : (rounds : ℕ) (state : State) → kept state → kept (take_negations rounds M state)
  negation_rounds zero state h = h
  negation_rounds (suc rounds) state h = negation_rounds rounds _ (negation_round (next_negation state) (slice_get state.negations (next_negation state)) state refl h)

  -- it is kept to the end, and nothing is left
  pub all_rounds : (state : State) → kept state → Finishes M kept state
  all_rounds state h =
      let first : State = take_positives (length state.positives) M state in
      let second : State = take_tests (length first.tests) M first in
      let k = negations_keep (length second.negations) M second in
      record {
        last = take_negations (length second.negations) M second;
        is = refl;
        holds = negation_rounds (length second.negations) second (test_rounds (length first.tests) first (positive_rounds (length state.positives) state h));
        positives = ap length (k.0 ∙ tests_keep (length first.tests) M first) ∙ positives_gone (length state.positives) M state (omega arith);
        tests = ap length k.1 ∙ tests_gone (length first.tests) M first (omega arith);
        negations = negations_gone (length second.negations) M second (omega arith);
      }

-- where nothing is left, each element is whatever it should be
pub nothing_left : {X : Type 0} (P : X → Type 0) (xs : List X) → length xs ≡ 0 → AllByRecursion P xs
nothing_left P [] e = tt
nothing_left P (x ∷ xs) e = absurd (omega arith)
