-- What holds of the tables that a step reads: their periods, reaches, numbers and columns.
use Rattle.std.proofs.Common.{◌≡◌, ◌≢◌, ◌↔◌, ◌≤◌, ◌^◌, ◌||◌, ⊎_elim, ℕ, zero, suc, Bool, true, false, cond, List, [], ◌∷◌, ◌++◌, length, Contains, refl, sym, subst, ◌∙◌, arith, bytes_eq, Option, Some, None, Result, Ok, Err, to_z, of_z, w64}
use Rattle.std.specs.Prelude.{ℤ, pos, ◌≤ℤ◌, AllPairs, IfOk, IfSome}
use Rattle.std.specs.List.{AllByRecursion, list_any}
use Rattle.std.specs.Cmp.Lexicographic.{bytes_decides}
use Rattle.std.proofs.lemmas.Int.{ints}
use Rattle.lrp_theory.specs.Divides.{Divides, IsMultiple}
use Rattle.lrp_steps.proofs.Compared.{one_divides}
use Rattle.lrp_model.specs.Texts.{Text, Identifier, AreDistinct}
use Rattle.lrp_model.specs.Formulas.{Question}
use Rattle.lrp_model.specs.Variables.{Variable, time_variable, data_variable, variables_of_test, free}
use Rattle.lrp_model.specs.Periods.{test_periods}
use Rattle.lrp_model.specs.Steps.{Steps, formula_at, reach_at}
use Rattle.lrp_model.specs.TestPoints.{points, test_points}
use Rattle.lrp_model.specs.declared.relations.Relation.{Relation}
use Rattle.lrp_model.specs.declared.formulas.Test.{Test}
use Rattle.lrp_model.specs.declared.formulas.Test.TheVariants.{Compare, Member, Equal}
use Rattle.lrp_model.specs.declared.plans.StepKind.{StepKind}
use Rattle.lrp_store.specs.Stores.{HasReach}
use Rattle.lrp_store.specs.Tables.{AreNumbered}
use Rattle.lrp_tables.specs.declared.table.Table.{Table}
use Rattle.lrp_tables.specs.Calls.{CanMeet, CanBeCarried, test_period}
use Rattle.lrp_tables.specs.Columns.{joint}
use Rattle.lrp_tables.specs.Tables.{named_variables}
use Rattle.lrp_plan_laws.specs.Made.{IsEarlier, operands, AreAmong}
use Rattle.lrp_plan_laws.specs.Points.{step_points}
use Rattle.lrp_plan_laws.specs.Rising.{period_at, named_periods}
use Rattle.lrp_plan_laws.specs.Scopes.{IsNarrow}
use Rattle.lrp_eval.specs.Running.{variables_of, IsOperand, IsNext}
use Rattle.lrp_eval.proofs.Named.{all_of, in_joint, time_named, data_named, times_in_test, texts_in_test}
use Rattle.lrp_eval.proofs.Nexts.{IsRead, of_kind, run_of, made, rises, sound_step, reach_low, denotes_of}
use Rattle.lrp_plan_laws.proofs.Members.{all_by, in_left, in_right}
use Rattle.lrp_steps.proofs.Steps.{abs_is, farther}
use Rattle.lrp_slots.proofs.Keys.{all_front}

-- ---- results

-- what holds of an Ok
ok_is : {A F : Type 0} (P : A → Type 0) (r : Result A F) (a : A) → r ≡ Ok a → IfOk r P → P a
ok_is P (Ok b) a e p = let same : b ≡ a = cc in subst P same p
ok_is P (Err f) a e p = absurd (cc)

-- what is found in a result that is tried
pub found_ok : {A E F : Type 0} (P W R : A → Type 0) (r : Result A E) (s : Result A F) → ((a : A) → P a → W a → R a) → IfOk r P → IfOk s (λ a. (r ≡ Ok a) × W a) → IfOk s R
found_ok P W R r (Ok a) f p x = f a (ok_is P r a x.0 p) x.1
found_ok P W R r (Err e) f p x = tt

pub some_ok : {A : Type 0} (P : A → Type 0) (o : Option A) (a : A) → o ≡ Some a → IfSome o P → P a
some_ok P o a e p = value (subst (λ u. IfSome u P) e p)
  where
    value : IfSome (Some a) P → P a
    value x = x

-- ---- reaches

-- ---- names that differ

pub first_apart : {X : Type 0} (x : X) (xs : List X) → AllPairs ◌≢◌ (x ∷ xs) → AllByRecursion (λ y. x ≢ y) xs
first_apart x xs h = all_by (λ y. x ≢ y) xs (λ y c e. h zero (suc c.0) y (omega arith) (omega (arith, c.1)) (e ∙ sym c.2))

pub rest_apart : {X : Type 0} (x : X) (xs : List X) → AllPairs ◌≢◌ (x ∷ xs) → AllPairs ◌≢◌ xs
rest_apart x xs h i j d lt below = h (suc i) (suc j) d (omega arith) (omega arith)

pub first_differ : (ns ms : List Identifier) → AllPairs ◌≢◌ (ns ++ ms) → AreDistinct ns
first_differ [] ms h = tt
first_differ (n ∷ ns) ms h = (all_front (λ m. n ≢ m) ns ms (first_apart n (ns ++ ms) h), first_differ ns ms (rest_apart n (ns ++ ms) h))

all_differ : (ms : List Identifier) → AllPairs ◌≢◌ ms → AreDistinct ms
all_differ [] h = tt
all_differ (m ∷ ms) h = (first_apart m ms h, all_differ ms (rest_apart m ms h))

pub second_differ : (ns ms : List Identifier) → AllPairs ◌≢◌ (ns ++ ms) → AreDistinct ms
second_differ [] ms h = all_differ ms h
second_differ (n ∷ ns) ms h = second_differ ns ms (rest_apart n (ns ++ ms) h)

any_of : (n : Identifier) (ns : List Identifier) → list_any (bytes_eq n) ns ≡ false → AllByRecursion (λ m. m ≢ n) ns
any_of n [] e = tt
any_of n (m ∷ ms) e = apart (bytes_eq n m) (list_any (bytes_eq n) ms) refl (any_of n ms) e
  where
    apart : (b c : Bool) → bytes_eq n m ≡ b → (c ≡ false → AllByRecursion (λ m. m ≢ n) ms) → (b || c) ≡ false → AllByRecursion (λ m. m ≢ n) (m ∷ ms)
    apart true c t h f = cc
    apart false c t h f = ((λ same. let yes_so : bytes_eq n m ≡ true = (bytes_decides n m).1 (sym same) in cc), h f)

all_after : (p : Identifier → Type 0) (ns : List Identifier) (n : Identifier) → AllByRecursion p ns → p n → AllByRecursion p (ns ++ n ∷ [])
all_after p [] n h k = (k, tt)
all_after p (m ∷ ms) n h k = (h.0, all_after p ms n h.1 k)

one_after : (ns : List Identifier) (n : Identifier) → AreDistinct ns → AllByRecursion (λ m. m ≢ n) ns → AreDistinct (ns ++ n ∷ [])
one_after [] n d h = (tt, tt)
one_after (m ∷ ms) n d h = (all_after (λ k. m ≢ k) ms n d.0 h.0, one_after ms n d.1 h.1)

pub joint_differ : (ns more : List Identifier) → AreDistinct ns → AreDistinct (joint ns more)
joint_differ ns [] d = d
joint_differ ns (n ∷ more) d = joint_differ (cond (list_any (bytes_eq n) ns) ns (ns ++ n ∷ [])) more (taken (list_any (bytes_eq n) ns) (any_of n ns))
  where
    taken : (b : Bool) → (b ≡ false → AllByRecursion (λ m. m ≢ n) ns) → AreDistinct (cond b ns (ns ++ n ∷ []))
    taken true h = d
    taken false h = one_after ns n d (h refl)

-- ---- tests

pub low_period : (t : Test) → AllByRecursion (λ at. pos 1 ≤ℤ at.period) (test_points t) → pos 1 ≤ℤ test_period t
low_period (Compare left op right) h = omega (arith, ints)
low_period (Member term point) h = h.0
low_period (Equal left right) h = omega (arith, ints)

divides_test : (t : Test) (K : ℕ) → AllByRecursion (λ at. pos 1 ≤ℤ at.period) (test_points t) → AllByRecursion (λ k. (1 ≤ k) × IsMultiple k K) (test_periods t) → Divides (test_period t) (pos K)
divides_test (Compare left op right) K h m = one_divides (pos K)
divides_test (Member term point) K h m = subst (λ z. Divides z (pos K)) (abs_is point.period h.0) m.0.1
divides_test (Equal left right) K h m = one_divides (pos K)

pub carried : (times texts : List Identifier) (K : ℕ) (t : Test) → AreAmong (variables_of_test t) (named_variables times texts)
    → AllByRecursion (λ at. pos 1 ≤ℤ at.period) (test_points t) → AllByRecursion (λ k. (1 ≤ k) × IsMultiple k K) (test_periods t) → CanBeCarried times texts (pos K) t
carried times texts K t among h m = record {
  times_known = λ v c. (time_named times texts v).0 (among (time_variable v) ((times_in_test t v).0 c));
  texts_known = λ v c. (data_named times texts v).0 (among (data_variable v) ((texts_in_test t v).0 c));
  low = low_period t h;
  divides = divides_test t K h m;
}

module _ {planned : Steps} {db : List Relation} {q : Question} {cap : ℕ} {domain : List Text} {tables : List Table} {kind : StepKind} {period : ℤ} (n : IsNext planned db q cap domain tables kind period) where
  -- ---- periods

  pub low : pos 1 ≤ℤ period
  low = let r : 1 ≤ n.step.period = (rises n).positive in let e : period ≡ pos n.step.period = n.period_is in omega (arith, ints)

  pub step_small : n.step.reach ≤ 2 ^ 61
  step_small = let a = (rises n).below in let b = reach_low n in omega arith

  pub high : period ≤ℤ pos (2 ^ 62)
  high =
      let w : n.step.period ≤ n.step.reach = (rises n).wide in
      let e : period ≡ pos n.step.period = n.period_is in
      let b : n.step.reach ≤ 2 ^ 61 = step_small in
      omega (arith, ints)

  -- the period is its word
  pub worded : IsNext planned db q cap domain tables kind (to_z w64 (of_z w64 period))
  worded =
      let a = low in
      let b = high in
      let e : period ≡ to_z w64 (of_z w64 period) = omega (arith, ints) in
      subst (λ p. IsNext planned db q cap domain tables kind p) e n

  pub point_periods : AllByRecursion (λ at. pos 1 ≤ℤ at.period) (step_points kind)
  point_periods = of_kind n (λ k. AllByRecursion (λ at. pos 1 ≤ℤ at.period) (step_points k))
      (all_by (λ at. pos 1 ≤ℤ at.period) (step_points n.step.kind) (λ at c.
      all_of (λ at. pos 1 ≤ℤ at.period) (points q.body) at n.plan.1.points
      (all_of (Contains (points q.body)) (step_points n.step.kind) at (sound_step n).points c)))

  pub own_periods : AllByRecursion (λ k. (1 ≤ k) × IsMultiple k n.step.period) (named_periods db kind)
  own_periods = of_kind n (λ k. AllByRecursion (λ k. (1 ≤ k) × IsMultiple k n.step.period) (named_periods db k)) (rises n).points

  pub earlier : AllByRecursion (IsRead n) (operands kind)
  earlier = all_by (IsRead n) (operands kind) (λ l c.
      let e : IsEarlier (suc (length tables)) l = all_of (IsEarlier (suc (length tables))) (operands kind) l (of_kind n (λ k. AllByRecursion (IsEarlier (suc (length tables))) (operands k)) (made n).earlier) c in
      (e.0, e.1, c))

  pub multiples : AllByRecursion (λ l. IsMultiple (period_at planned l) n.step.period) (operands kind)
  multiples = of_kind n (λ k. AllByRecursion (λ l. IsMultiple (period_at planned l) n.step.period) (operands k)) (rises n).multiple

  -- ---- a table that is read

  module _ {l : ℕ} {t : Table} (o : IsOperand tables l t) (e : IsRead n l) where
    pub period_divides : IsMultiple (period_at planned l) n.step.period → Divides (pos t.store.period) period
    period_divides m =
        subst (λ p. Divides (pos t.store.period) p) (sym n.period_is) (subst (λ k. Divides (pos k) (pos n.step.period)) (sym (run_of n l t e o).period) m)

    pub reach_within : (high : ℕ) → reach_at planned l ≤ high → HasReach t.store high
    reach_within high le = farther t.store (reach_at planned l) high le (run_of n l t e o).reach

    pub numbered : AreNumbered domain t.store
    numbered = subst (λ d. AreNumbered d t.store) (sym n.domain_is) (run_of n l t e o).numbered

    pub variables : (v : Variable) → Contains (variables_of t) v ↔ Contains (free (formula_at planned l)) v
    variables = (denotes_of n l t e o).variables

  -- ---- two tables that are read

  module _ {l r : ℕ} {lt rt : Table} (lo : IsOperand tables l lt) (ro : IsOperand tables r rt) (le : IsRead n l) (re : IsRead n r)
      (narrow : IsNarrow (free (formula_at planned l) ++ (free (formula_at planned r) ++ []))) where
    left_in : (v : Variable) → Contains (variables_of lt) v → Contains (free (formula_at planned l) ++ (free (formula_at planned r) ++ [])) v
    left_in v c = in_left (free (formula_at planned l)) (free (formula_at planned r) ++ []) v ((variables lo le v).0 c)

    right_in : (v : Variable) → Contains (variables_of rt) v → Contains (free (formula_at planned l) ++ (free (formula_at planned r) ++ [])) v
    right_in v c = in_right (free (formula_at planned l)) (free (formula_at planned r) ++ []) v (in_left (free (formula_at planned r)) [] v ((variables ro re v).0 c))

    pub can_meet : CanMeet lt rt
    can_meet = record {
      times = narrow.times (joint lt.vars.times rt.vars.times) (joint_differ lt.vars.times rt.vars.times (first_differ lt.vars.times lt.vars.texts lo.differ))
          (all_by _ (joint lt.vars.times rt.vars.times) (λ v c.
          ⊎_elim (λ a. left_in (time_variable v) ((time_named lt.vars.times lt.vars.texts v).1 a)) (λ b. right_in (time_variable v) ((time_named rt.vars.times rt.vars.texts v).1 b)) ((in_joint lt.vars.times rt.vars.times v).0 c)));
      texts = narrow.texts (joint lt.vars.texts rt.vars.texts) (joint_differ lt.vars.texts rt.vars.texts (second_differ lt.vars.times lt.vars.texts lo.differ))
          (all_by _ (joint lt.vars.texts rt.vars.texts) (λ v c.
          ⊎_elim (λ a. left_in (data_variable v) ((data_named lt.vars.times lt.vars.texts v).1 a)) (λ b. right_in (data_variable v) ((data_named rt.vars.times rt.vars.texts v).1 b)) ((in_joint lt.vars.texts rt.vars.texts v).0 c)));
      left_apart = λ v a b. narrow.kinds v (left_in (time_variable v) ((time_named lt.vars.times lt.vars.texts v).1 a)) (right_in (data_variable v) ((data_named rt.vars.times rt.vars.texts v).1 b));
      right_apart = λ v a b. narrow.kinds v (right_in (time_variable v) ((time_named rt.vars.times rt.vars.texts v).1 a)) (left_in (data_variable v) ((data_named lt.vars.times lt.vars.texts v).1 b));
    }
