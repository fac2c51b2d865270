-- What is done with an element in the program is what the rules do with it: taking up, taking off, beginning.
use Rattle.std.proofs.Common.{◌≡◌, ◌⊎◌, ⊎_elim, ◌≤◌, ℕ, Bool, true, false, cond, not, List, [], ◌∷◌, ◌++◌, length, Option, Some, None, filter, map, refl, sym, ap, ap₂, subst, ◌∙◌, arith}
use Rattle.std.specs.List.{AllZip, AllByRecursion}
use Rattle.lrp_core.specs.FreeVariables.{variable_of, with_variables}
use Rattle.lrp_core.specs.declared.core_forms.Core.{Core}
use Rattle.lrp_core.specs.declared.variables.Variable.{Variable as ProgramVariable}
use Rattle.lrp_model.specs.Variables.{Variable, are_among, variables_of_test}
use Rattle.lrp_model.specs.Steps.{Steps, join, minus, complement}
use Rattle.lrp_model.specs.Conjunctions.{select_each}
use Rattle.lrp_model.specs.declared.formulas.Test.{Test}
use Rattle.lrp_plan_laws.specs.Projections.{PlanGround as Ground}
use Rattle.lrp_plan_laws.specs.GuardedConjunctions.{Standing, covered_by, uncovered_by, taken_up, take_up, go_on_from, select_each_from, last_selected, begun}
use Rattle.lrp_plan_laws.proofs.Elements.{split_all}
use Rattle.lrp_plan.specs.declared.drafts.PlannedOperand.{PlannedOperand}
use Rattle.lrp_plan.specs.Drafts.{IsPlannedOperand, AreTests}
use Rattle.lrp_plan.specs.Taking.{HaveSame, covers}
use Rattle.lrp_plan.proofs.Members.{are_among_same, more_same}
use Rattle.lrp_guarded.specs.Making.{IsMaking, MakesFrom, Makes, MakesTo, IsMadeTo}
use Rattle.lrp_guarded.specs.Standing.{AreElementsLeft as AreLeft, IsStandingOf as IsStanding, StandsInList as Stands, FollowsRule as Follows, taking_up, subtracting as taking_off}
use Rattle.lrp_guarded.specs.declared.making.Making.{Making}
use Rattle.lrp_guarded.specs.declared.standing.Standing.{Standing as ProgramStanding}

-- ---- tests that are covered

pub filter_same : {X : Type 0} (p q : X → Bool) → ((x : X) → p x ≡ q x) → (xs : List X) → filter p xs ≡ filter q xs
filter_same p q h [] = refl
filter_same p q h (x ∷ xs) = ap₂ (λ b ys. cond b (x ∷ ys) ys) (h x) (filter_same p q h xs)

same_own : (vs : List Variable) → HaveSame vs vs
same_own vs = record { each = λ v. refl }

-- by variables that are the same
covered_same : (vs us : List Variable) (ts us_tests : List Test) → HaveSame vs us → ts ≡ us_tests → filter (covers vs) ts ≡ covered_by us us_tests
covered_same vs us ts rs h e = filter_same (covers vs) (λ t. are_among (variables_of_test t) us) (λ t. are_among_same _ _ _ _ (same_own (variables_of_test t)) h) ts ∙ ap (covered_by us) e

uncovered_same : (vs us : List Variable) (ts rs : List Test) → HaveSame vs us → ts ≡ rs → filter (λ t. not (covers vs t)) ts ≡ uncovered_by us rs
uncovered_same vs us ts rs h e = filter_same (λ t. not (covers vs t)) (λ t. not (are_among (variables_of_test t) us)) (λ t. ap not (are_among_same _ _ _ _ (same_own (variables_of_test t)) h)) ts ∙ ap (uncovered_by us) e

-- tests that are covered are tests, and so are the others
covered_tests : (us : List Variable) (ts : List Test) → AreTests ts → AreTests (covered_by us ts) × AreTests (uncovered_by us ts)
covered_tests us ts h = (split_all _ (λ t. are_among (variables_of_test t) us) ts).0 h

-- ---- where the making stands after a step

-- the standing of the program once the last step is the result, with these variables and tests
abbrev pub last_taken : Making → List ProgramVariable → List Test → ProgramStanding → ProgramStanding
last_taken after grown left old = record { some = true; result = after.draft.last; variables = grown; left = record { atoms = old.left.atoms; sorts = old.left.sorts; others = old.left.others; tests = left; negations = old.left.negations }; block = old.block }

module _ (over : Ground) (K : ℕ) (fs : List Core) (before after : Making) (old : ProgramStanding) (at : Standing) (s : Stands over K fs before old at) where
  stands_after : (grown : List ProgramVariable) (left : List Test) (vs : List Variable) (rs : List Test) (steps : Steps) → IsMaking over K after steps → HaveSame (map variable_of grown) vs → left ≡ rs → AreTests rs
      → Stands over K fs after (last_taken after grown left old) (record at { steps = steps; taken = taken_up vs steps; tests = rs })
  stands_after grown left vs rs steps m same e are = record {
    making = m;
    standing = record {
      some = refl;
      result = m.draft.last;
      variables = same;
      left = record { atoms = s.standing.left.atoms; sorts = s.standing.left.sorts; others = s.standing.left.others; tests = e; are_tests = are; negations = s.standing.left.negations };
      block = s.standing.block;
    };
  }

-- a formula of these variables, whose steps were just made, is taken up: the variables that are taken then, and the tests that are covered and left
pub record Grows (old : ProgramStanding) (variables grown : List ProgramVariable) (carried left : List Test) : Type 0 where
  pub variables_are : map variable_of grown ≡ with_variables (map variable_of old.variables) (map variable_of variables)
  pub carried_are : carried ≡ filter (covers (map variable_of grown)) old.left.tests
  pub left_are : left ≡ filter (λ t. not (covers (map variable_of grown) t)) old.left.tests

module _ (variables grown : List ProgramVariable) (carried left : List Test) (vs : List Variable) (before after : Making) (old : ProgramStanding) (same : HaveSame (map variable_of variables) vs) (grows : Grows old variables grown carried left) where
  grown_same : (over : Ground) (K : ℕ) (fs : List Core) (at : Standing) → Stands over K fs before old at → HaveSame (map variable_of grown) (at.taken.variables ++ vs)
  grown_same over K fs at s = subst (λ us. HaveSame us (at.taken.variables ++ vs)) (sym grows.variables_are) (more_same _ _ _ _ s.standing.variables same)

  carried_is : (over : Ground) (K : ℕ) (fs : List Core) (at : Standing) → Stands over K fs before old at → carried ≡ covered_by (at.taken.variables ++ vs) at.tests
  carried_is over K fs at s = grows.carried_are ∙ covered_same _ _ _ _ (grown_same over K fs at s) s.standing.left.tests

  left_is : (over : Ground) (K : ℕ) (fs : List Core) (at : Standing) → Stands over K fs before old at → left ≡ uncovered_by (at.taken.variables ++ vs) at.tests
  left_is over K fs at s = grows.left_are ∙ uncovered_same _ _ _ _ (grown_same over K fs at s) s.standing.left.tests

  -- joined with the result so far
  pub up_joined : (is_joined : Bool) → old.some ≡ true → is_joined ≡ true → (AreTests carried → MakesFrom old.result (λ over i. join i carried over.structure) before after) → Follows (taking_up is_joined vs) before after old (last_taken after grown left old)
  up_joined is_joined some joined makes = record {
    follows = λ over K fs at s.
        let ts : List Test = covered_by (at.taken.variables ++ vs) at.tests in
        let e : carried ≡ ts = carried_is over K fs at s in
        let are = covered_tests (at.taken.variables ++ vs) at.tests s.standing.left.are_tests in
        let m : IsMaking over K after (join at.taken.result carried over.structure at.steps) = (makes (subst AreTests (sym e) are.0)).follows over K at.steps at.taken.result s.making s.standing.result in
        let n : IsMaking over K after (join at.taken.result ts over.structure at.steps) = subst (λ us. IsMaking over K after (join at.taken.result us over.structure at.steps)) e m in
        let t : at.taken.some ≡ true = sym s.standing.some ∙ some in
        let r = stands_after over K fs before after old at s grown left (at.taken.variables ++ vs) (uncovered_by (at.taken.variables ++ vs) at.tests) (join at.taken.result ts over.structure at.steps) n (grown_same over K fs at s) (left_is over K fs at s) are.1 in
        let up : Stands over K fs after (last_taken after grown left old) (take_up over.structure vs at.steps at) =
        subst (λ b. Stands over K fs after (last_taken after grown left old) (cond b (record at { steps = join at.taken.result ts over.structure at.steps; taken = taken_up (at.taken.variables ++ vs) (join at.taken.result ts over.structure at.steps); tests = uncovered_by (at.taken.variables ++ vs) at.tests }) (go_on_from over.structure vs at.steps at))) (sym t) r in
        subst (λ b. Stands over K fs after (last_taken after grown left old) (cond b (take_up over.structure vs at.steps at) (go_on_from over.structure vs at.steps at))) (sym joined) up;
  }

  each_from_last : (over : Ground) (ts : List Test) (steps : Steps) → select_each_from (length steps) ts over.structure steps ≡ select_each ts over.structure steps
  each_from_last over [] steps = refl
  each_from_last over (t ∷ ts) steps = refl

  -- what was made is all
  pub up_selected : (is_joined : Bool) (last : PlannedOperand) → (old.some ≡ false) ⊎ (is_joined ≡ false) → (AreTests carried → MakesTo before.draft.last (λ over i. select_each_from i carried over.structure) (λ over i steps. last_selected carried i (select_each_from i carried over.structure steps)) before after last)
      → Follows (taking_up is_joined vs) before after old (last_taken after grown left old)
  up_selected is_joined last none makes = record {
    follows = λ over K fs at s.
        let ts : List Test = covered_by (at.taken.variables ++ vs) at.tests in
        let e : carried ≡ ts = carried_is over K fs at s in
        let are = covered_tests (at.taken.variables ++ vs) at.tests s.standing.left.are_tests in
        let m : IsMaking over K after (select_each_from (length at.steps) carried over.structure at.steps) = ((makes (subst AreTests (sym e) are.0)).follows over K at.steps (length at.steps) s.making s.making.draft.last).making in
        let n : IsMaking over K after (select_each ts over.structure at.steps) = subst (IsMaking over K after) (ap (λ us. select_each_from (length at.steps) us over.structure at.steps) e ∙ each_from_last over ts at.steps) m in
        let r : Stands over K fs after (last_taken after grown left old) (go_on_from over.structure vs at.steps at) = stands_after over K fs before after old at s grown left (at.taken.variables ++ vs) (uncovered_by (at.taken.variables ++ vs) at.tests) (select_each ts over.structure at.steps) n (grown_same over K fs at s) (left_is over K fs at s) are.1 in
        ⊎_elim
        (λ f. by_joined is_joined over K fs at r (subst (λ b. Stands over K fs after (last_taken after grown left old) (cond b (record at { steps = join at.taken.result ts over.structure at.steps; taken = taken_up (at.taken.variables ++ vs) (join at.taken.result ts over.structure at.steps); tests = uncovered_by (at.taken.variables ++ vs) at.tests }) (go_on_from over.structure vs at.steps at))) (sym (sym s.standing.some ∙ f)) r))
        (λ f. subst (λ b. Stands over K fs after (last_taken after grown left old) (cond b (take_up over.structure vs at.steps at) (go_on_from over.structure vs at.steps at))) (sym f) r)
        none;
  }
    where
      by_joined : (b : Bool) (over : Ground) (K : ℕ) (fs : List Core) (at : Standing) → Stands over K fs after (last_taken after grown left old) (go_on_from over.structure vs at.steps at) → Stands over K fs after (last_taken after grown left old) (take_up over.structure vs at.steps at)
          → Stands over K fs after (last_taken after grown left old) (taking_up b vs over at)
      by_joined true over K fs at r up = up
      by_joined false over K fs at r up = r

-- ---- taking off

module _ (variables grown : List ProgramVariable) (vs : List Variable) (before after : Making) (old : ProgramStanding) (same : HaveSame (map variable_of variables) vs) (variables_are : map variable_of grown ≡ with_variables (map variable_of old.variables) (map variable_of variables)) where
  off_stands : (over : Ground) (K : ℕ) (fs : List Core) (at : Standing) (steps : Steps) → Stands over K fs before old at → IsMaking over K after steps → Stands over K fs after (last_taken after grown old.left.tests old) (record at { steps = steps; taken = taken_up (at.taken.variables ++ vs) steps })
  off_stands over K fs at steps s m = stands_after over K fs before after old at s grown old.left.tests (at.taken.variables ++ vs) at.tests steps m (subst (λ us. HaveSame us (at.taken.variables ++ vs)) (sym variables_are) (more_same _ _ _ _ s.standing.variables same)) s.standing.left.tests s.standing.left.are_tests

  -- by a `minus`
  pub off_minus : old.some ≡ true → MakesFrom old.result (λ over i. minus i over.structure) before after → Follows (taking_off vs) before after old (last_taken after grown old.left.tests old)
  off_minus some makes = record {
    follows = λ over K fs at s.
        subst (λ b. Stands over K fs after (last_taken after grown old.left.tests old) (record at { steps = cond b (minus at.taken.result over.structure at.steps) (complement over.structure at.steps); taken = taken_up (at.taken.variables ++ vs) (cond b (minus at.taken.result over.structure at.steps) (complement over.structure at.steps)) })) (sym (sym s.standing.some ∙ some))
        (off_stands over K fs at (minus at.taken.result over.structure at.steps) s (makes.follows over K at.steps at.taken.result s.making s.standing.result));
  }

  -- by a `complement`
  pub off_complement : old.some ≡ false → Makes (λ over. complement over.structure) before after → Follows (taking_off vs) before after old (last_taken after grown old.left.tests old)
  off_complement none makes = record {
    follows = λ over K fs at s.
        subst (λ b. Stands over K fs after (last_taken after grown old.left.tests old) (record at { steps = cond b (minus at.taken.result over.structure at.steps) (complement over.structure at.steps); taken = taken_up (at.taken.variables ++ vs) (cond b (minus at.taken.result over.structure at.steps) (complement over.structure at.steps)) })) (sym (sym s.standing.some ∙ none))
        (off_stands over K fs at (complement over.structure at.steps) s (makes.follows over K at.steps s.making));
  }

-- ---- the beginning

pub begins : (carried left : List Test) (last : PlannedOperand) (before after : Making) (old : ProgramStanding) → old.some ≡ true → carried ≡ filter (covers (map variable_of old.variables)) old.left.tests → left ≡ filter (λ t. not (covers (map variable_of old.variables) t)) old.left.tests
    → (AreTests carried → MakesTo old.result (λ over i. select_each_from i carried over.structure) (λ over i steps. last_selected carried i (select_each_from i carried over.structure steps)) before after last)
    → Follows begun before after old (record { some = old.some; result = last; variables = old.variables; left = record { atoms = old.left.atoms; sorts = old.left.sorts; others = old.left.others; tests = left; negations = old.left.negations }; block = old.block })
begins carried left last before after old some carried_are left_are makes = record {
  follows = λ over K fs at s.
      let ts : List Test = covered_by at.taken.variables at.tests in
      let e : carried ≡ ts = carried_are ∙ covered_same _ _ _ _ s.standing.variables s.standing.left.tests in
      let are = covered_tests at.taken.variables at.tests s.standing.left.are_tests in
      let m : IsMadeTo over K after (select_each_from at.taken.result carried over.structure at.steps) (last_selected carried at.taken.result (select_each_from at.taken.result carried over.structure at.steps)) last = (makes (subst AreTests (sym e) are.0)).follows over K at.steps at.taken.result s.making s.standing.result in
      let n : IsMadeTo over K after (select_each_from at.taken.result ts over.structure at.steps) (last_selected ts at.taken.result (select_each_from at.taken.result ts over.structure at.steps)) last =
      subst (λ us. IsMadeTo over K after (select_each_from at.taken.result us over.structure at.steps) (last_selected us at.taken.result (select_each_from at.taken.result us over.structure at.steps)) last) e m in
      subst (λ b. Stands over K fs after (record { some = old.some; result = last; variables = old.variables; left = record { atoms = old.left.atoms; sorts = old.left.sorts; others = old.left.others; tests = left; negations = old.left.negations }; block = old.block })
      (cond b (record at { steps = select_each_from at.taken.result ts over.structure at.steps; taken = record { some = true; result = last_selected ts at.taken.result (select_each_from at.taken.result ts over.structure at.steps); variables = at.taken.variables }; tests = uncovered_by at.taken.variables at.tests }) at)) (sym (sym s.standing.some ∙ some))
      (record {
        making = n.making;
        standing = record {
          some = some;
          result = n.last;
          variables = s.standing.variables;
          left = record { atoms = s.standing.left.atoms; sorts = s.standing.left.sorts; others = s.standing.left.others; tests = left_are ∙ uncovered_same _ _ _ _ s.standing.variables s.standing.left.tests; are_tests = are.1; negations = s.standing.left.negations };
          block = s.standing.block;
        };
      });
}
