-- The tuples that pass a test.
use Rattle.std.proofs.Common.{◌≡◌, ◌≢◌, ℕ, ◌+◌, ◌<◌, ◌≤◌, ◌^◌, inl, Bool, true, false, cond, List, [], ◌∷◌, ◌++◌, length, map, refl, sym, ap, subst, ◌∙◌, arith, Contains, eq-eqb}
use Rattle.std.specs.Prelude.{ℤ, pos, nat_abs, ◌≤ℤ◌, All, AllPairs, ◌==◌, if◌then◌else◌, ◌-◌}
use Rattle.std.specs.List.{list_any}
use Rattle.std.specs.Str.{bytes_eq}
use Rattle.std.specs.Int.{w64}
use Rattle.std.proofs.Common.{to_z, of_z}
use Rattle.std.proofs.lemmas.Int.{ints}
use Rattle.std.proofs.lemmas.List.{length-append}
use Rattle.lrp_theory.proofs.Modulo.{Divides-self}
use Rattle.lrp_model.specs.Texts.{Text, Identifier, Ascends}
use Rattle.lrp_model.specs.Reach.{test_reach}
use Rattle.lrp_model.specs.declared.formulas.TimeTerm.{TimeTerm}
use Rattle.lrp_model.specs.declared.formulas.TimeTerm.TheVariants.{Var as time_var, Int as time_int}
use Rattle.lrp_model.specs.declared.formulas.DataTerm.{DataTerm}
use Rattle.lrp_model.specs.declared.formulas.DataTerm.TheVariants.{Var as data_var, Const as data_const}
use Rattle.lrp_model.specs.declared.formulas.Test.{Test}
use Rattle.lrp_model.specs.declared.formulas.Test.TheVariants.{Compare, Member, Equal}
use Rattle.lrp_model.specs.declared.tuples.Shape.{Shape}
use Rattle.lrp_store.specs.Stores.{StoreView, IsStore, HasReach}
use Rattle.lrp_store.specs.Growing.{IsAdded, IsRefused}
use Rattle.lrp_tables.specs.declared.table.Table.{Table}
use Rattle.lrp_store.proofs.Grown.{Set}
use Rattle.lrp_systems.specs.Parts.{Fits, system_reach}
use Rattle.lrp_tables.specs.Calls.{test_period}
use Rattle.lrp_tables.specs.Caps.{InhabitsMoreThan}
use Rattle.lrp_tables.specs.Columns.{joint, names_of_time, names_of_data, times_of_test, texts_of_test, test_times, test_names}
use Rattle.lrp_tables.specs.Tables.{IsTested, IsTableOf}
use Rattle.lrp_tables.proofs.CellsNamed.{AreTuplesOf}
use Rattle.lrp_tables.proofs.HeadNames.{pairs_apart}
use Rattle.lrp_tables.proofs.Joining.{joint_differs}
use Rattle.lrp_steps.specs.declared.pattern.Pattern.{Pattern}
use Rattle.lrp_steps.specs.Conditions.{condition_reach, IsWithTest, HasNoTest}
use Rattle.lrp_steps.specs.Patterns.{parts_of, IsOver, MatchesPattern}
use Rattle.lrp_steps.proofs.Conditioned.{condition_within}
use Rattle.lrp_steps.proofs.Parts.{added_nothing}
use Rattle.lrp_steps.proofs.Steps.{over_tuples, has_texts, free, free_reach, free_suits, step_table, step_few, step_many, step_reach, empty_store, divides_abs, positive, same_word}

-- ---- the names of a test

-- two lists put together have no more names than both
pub joint_short : (names more : List Identifier) → length (joint names more) ≤ length names + length more
joint_short names [] = omega arith
joint_short names (name ∷ more) = by (list_any (bytes_eq name) names) (joint_short names more) (joint_short (names ++ name ∷ []) more)
  where
    by : (b : Bool) → length (joint names more) ≤ length names + length more → length (joint (names ++ name ∷ []) more) ≤ length (names ++ name ∷ []) + length more → length (joint (cond b names (names ++ name ∷ [])) more) ≤ length names + length (name ∷ more)
    by true h g = omega (arith, h)
    by false h g = let e : length (names ++ name ∷ []) ≡ length names + 1 = length-append names (name ∷ []) in omega (arith, g, e)

one_time : (t : TimeTerm) → length (names_of_time t) ≤ 1
one_time (time_var v plus) = omega arith
one_time (time_int x) = omega arith

one_text : (t : DataTerm) → length (names_of_data t) ≤ 1
one_text (data_var v) = omega arith
one_text (data_const t) = omega arith

two_times : (test : Test) → length (times_of_test test) ≤ 2
two_times (Compare left op right) = let a = one_time left in let b = one_time right in let e : length (names_of_time left ++ names_of_time right) ≡ length (names_of_time left) + length (names_of_time right) = length-append (names_of_time left) (names_of_time right) in omega (arith, a, b, e)
two_times (Member term point) = let a = one_time term in omega (arith, a)
two_times (Equal left right) = omega arith

two_texts : (test : Test) → length (texts_of_test test) ≤ 2
two_texts (Compare left op right) = omega arith
two_texts (Member term point) = omega arith
two_texts (Equal left right) = let a = one_text left in let b = one_text right in let e : length (names_of_data left ++ names_of_data right) ≡ length (names_of_data left) + length (names_of_data right) = length-append (names_of_data left) (names_of_data right) in omega (arith, a, b, e)

pub test_few_times : (test : Test) → length (test_times test) ≤ 8
test_few_times test = let a : length (joint [] (times_of_test test)) ≤ 0 + length (times_of_test test) = joint_short [] (times_of_test test) in let b = two_times test in omega (arith, a, b)

pub test_few_texts : (test : Test) → length (test_names test) ≤ 8
test_few_texts test = let a : length (joint [] (texts_of_test test)) ≤ 0 + length (texts_of_test test) = joint_short [] (texts_of_test test) in let b = two_texts test in omega (arith, a, b)

differ_times : (test : Test) → AllPairs ◌≢◌ (test_times test)
differ_times test = joint_differs [] (times_of_test test) (λ i j d low high. absurd (omega arith))

differ_texts : (test : Test) → AllPairs ◌≢◌ (test_names test)
differ_texts test = joint_differs [] (texts_of_test test) (λ i j d low high. absurd (omega arith))

-- a test has variables of one kind
one_kind : (test : Test) (name : Identifier) → Contains (test_times test) name → Contains (test_names test) name → ⊥
one_kind (Compare left op right) name a b = let low : b.0 < 0 = b.1 in omega (arith, low)
one_kind (Member term point) name a b = let low : b.0 < 0 = b.1 in omega (arith, low)
one_kind (Equal left right) name a b = let low : a.0 < 0 = a.1 in omega (arith, low)

pub test_names_differ : (test : Test) → AllPairs ◌≢◌ (test_times test ++ test_names test)
test_names_differ test = pairs_apart (test_times test) (test_names test) (differ_times test) (differ_texts test) (one_kind test)

-- ---- its period

pub period_high : (test : Test) → test_reach test ≤ 2 ^ 62 → test_period test ≤ℤ pos (2 ^ 62)
period_high (Compare left op right) h = omega (arith, ints)
period_high (Member term point) h = omega (arith, ints, h)
period_high (Equal left right) h = omega (arith, ints)

pub test_word : (test : Test) (k : ℤ) → pos 1 ≤ℤ test_period test → test_reach test ≤ 2 ^ 62 → k ≡ test_period test → nat_abs (to_z w64 (of_z w64 k)) ≡ nat_abs (test_period test)
test_word test k low high e = ap (λ z. nat_abs (to_z w64 (of_z w64 z))) e ∙ same_word (test_period test) low (period_high test high)

-- a period is the same as a word
pub word_low : (k : ℤ) → pos 1 ≤ℤ k → k ≤ℤ pos (2 ^ 62) → pos 1 ≤ℤ to_z w64 (of_z w64 k)
word_low k low high = omega (arith, ints)

pub word_high : (k : ℤ) → pos 1 ≤ℤ k → k ≤ℤ pos (2 ^ 62) → to_z w64 (of_z w64 k) ≤ℤ pos (2 ^ 62)
word_high k low high = omega (arith, ints)

-- ---- the step

module _ (domain : List Text) (ascends : Ascends domain) (test : Test) (one : pos 1 ≤ℤ test_period test) (old : Pattern) (none : old ≡ free) (size : ℕ) (es : size ≡ length domain) (cap : ℕ)
    (start : StoreView) (fresh : start ≡ empty_store (test_times test) (test_names test) (nat_abs (test_period test))) where
  abbrev times : List Identifier
  times = test_times test

  abbrev texts : List Identifier
  texts = test_names test

  abbrev k : ℕ
  k = nat_abs (test_period test)

  abbrev shape : Shape
  shape = record { times = length times; texts = length texts }

  start_shape : start.shape ≡ shape
  start_shape = ap (λ (s : StoreView). s.shape) fresh

  start_period : start.period ≡ k
  start_period = ap (λ (s : StoreView). s.period) fresh

  -- nothing passes
  module _ (no : HasNoTest domain times texts test old) (valid : IsStore start) where
    abbrev Nothing : Set
    Nothing xs ns = ⊥

    are_none : AreTuplesOf domain times texts (IsOver shape size Nothing) (IsTested domain test)
    are_none = over_tuples domain times texts shape size es refl refl Nothing (IsTested domain test) (λ env ns a h. absurd h) (λ env m. m.known) (λ env m ns a. no.none env ns a (free_suits old none (map env.times times) ns) m.passes)

    nothing : (high : ℕ) → IsAdded (IsOver shape size Nothing) cap high start start
    nothing high = added_nothing cap high (IsOver shape size Nothing) start valid (λ xs ns h. h.is)

    pub no_table : (made : Table) → made.vars.times ≡ times → made.vars.texts ≡ texts → made.store ≡ start → IsTableOf domain times texts k (IsTested domain test) made
    no_table = step_table domain ascends times texts (differ_times test) (differ_texts test) (test_few_times test) (test_few_texts test) k (positive (test_period test) one) (IsOver shape size Nothing) (IsTested domain test) are_none cap start start fresh 0 (nothing 0)

    pub no_few : InhabitsMoreThan cap domain k times texts (IsTested domain test) → ⊥
    no_few = step_few domain ascends times texts (differ_times test) (differ_texts test) (test_few_times test) (test_few_texts test) k (positive (test_period test) one) (IsOver shape size Nothing) (IsTested domain test) are_none cap start start fresh 0 (nothing 0)

    pub no_reach : (high : ℕ) → HasReach start high
    no_reach high = step_reach domain ascends times texts (differ_times test) (differ_texts test) (test_few_times test) (test_few_texts test) k (positive (test_period test) one) (IsOver shape size Nothing) (IsTested domain test) are_none cap start start fresh high (nothing high)

  -- something may pass
  module _ (pattern : Pattern) (w : IsWithTest domain times texts test old pattern) where
    are : AreTuplesOf domain times texts (IsOver shape size (MatchesPattern pattern)) (IsTested domain test)
    are = over_tuples domain times texts shape size es refl refl (MatchesPattern pattern) (IsTested domain test)
        (λ env ns a h. record { known = has_texts domain texts env ns a; passes = (w.to env ns a h).1 })
        (λ env m. m.known)
        (λ env m ns a. w.from env ns a (free_suits old none (map env.times times) ns) m.passes)

    pub leaf_fits : All (Fits start.shape.times start.period) (parts_of pattern)
    leaf_fits = subst (λ (q : Shape). All (Fits q.times start.period) (parts_of pattern)) (sym start_shape) (subst (λ n. All (Fits (length times) n) (parts_of pattern)) (sym start_period)
        (w.fits k (divides_abs (test_period test) (test_period test) one (Divides-self (test_period test))) (inl refl) (subst (λ (p : Pattern). All (Fits (length times) k) (parts_of p)) (sym none) (λ i d h. absurd (omega arith)))))

    within : system_reach start.period (parts_of pattern) ≤ test_reach test
    within = subst (λ n. system_reach n (parts_of pattern) ≤ test_reach test) (sym start_period) (w.reach k (test_reach test) (same (k == k) (eq-eqb k k refl)) (free_reach old none k (test_reach test)))
      where
        same : (b : Bool) → b ≡ true → (if b then condition_reach test else condition_reach test + (k - 1)) ≤ test_reach test
        same true e = condition_within test
        same false e = cc

    module _ (out : StoreView) (ok : IsAdded (IsOver start.shape size (MatchesPattern pattern)) cap (system_reach start.period (parts_of pattern)) start out) where
      all : IsAdded (IsOver shape size (MatchesPattern pattern)) cap (system_reach start.period (parts_of pattern)) start out
      all = subst (λ (q : Shape). IsAdded (IsOver q size (MatchesPattern pattern)) cap (system_reach start.period (parts_of pattern)) start out) start_shape ok

      pub leaf_table : (made : Table) → made.vars.times ≡ times → made.vars.texts ≡ texts → made.store ≡ out → IsTableOf domain times texts k (IsTested domain test) made
      leaf_table = step_table domain ascends times texts (differ_times test) (differ_texts test) (test_few_times test) (test_few_texts test) k (positive (test_period test) one) (IsOver shape size (MatchesPattern pattern)) (IsTested domain test) are cap start out fresh (system_reach start.period (parts_of pattern)) all

      pub leaf_few : InhabitsMoreThan cap domain k times texts (IsTested domain test) → ⊥
      leaf_few = step_few domain ascends times texts (differ_times test) (differ_texts test) (test_few_times test) (test_few_texts test) k (positive (test_period test) one) (IsOver shape size (MatchesPattern pattern)) (IsTested domain test) are cap start out fresh (system_reach start.period (parts_of pattern)) all

      pub leaf_reach : HasReach out (test_reach test)
      leaf_reach =
          let r : HasReach out (system_reach start.period (parts_of pattern)) = step_reach domain ascends times texts (differ_times test) (differ_texts test) (test_few_times test) (test_few_texts test) k (positive (test_period test) one) (IsOver shape size (MatchesPattern pattern)) (IsTested domain test) are cap start out fresh (system_reach start.period (parts_of pattern)) all in
          record { each = λ c t h. let l = r.each c t h in let m = within in omega (arith, l, m) }

      pub leaf_shape : out.shape ≡ shape
      leaf_shape = all.grown.shape ∙ start_shape

    pub leaf_many : (out : StoreView) → IsRefused (IsOver start.shape size (MatchesPattern pattern)) cap (system_reach start.period (parts_of pattern)) start out → InhabitsMoreThan cap domain k times texts (IsTested domain test)
    leaf_many out refused = step_many domain ascends times texts (differ_times test) (differ_texts test) (test_few_times test) (test_few_texts test) k (positive (test_period test) one) (IsOver shape size (MatchesPattern pattern)) (IsTested domain test) are cap start out fresh (system_reach start.period (parts_of pattern))
        (subst (λ (q : Shape). IsRefused (IsOver q size (MatchesPattern pattern)) cap (system_reach start.period (parts_of pattern)) start out) start_shape refused)
