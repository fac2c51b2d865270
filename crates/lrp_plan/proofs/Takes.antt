-- What an `and` takes in, against its rules.
use Rattle.std.proofs.Common.{◌≡◌, ◌≤◌, ◌+◌, ℕ, zero, suc, Bool, true, false, cond, not, ◌&&◌, List, [], ◌∷◌, ◌++◌, length, Option, Some, None, option_map, unwrap_or, slice_get, filter, map, Result, Ok, Err, refl, sym, ap, subst, ◌∙◌, arith, length-append}
use Rattle.std.specs.Result.{OnOk}
use Rattle.std.proofs.lemmas.Bool.{false≢true}
use Rattle.std.proofs.lemmas.List.Elements.{filter_agree}
use Rattle.lrp_model.specs.Formulas.{test}
use Rattle.lrp_model.specs.Variables.{Variable, free, are_among}
use Rattle.lrp_model.specs.Satisfaction.{Structure}
use Rattle.lrp_theory.specs.Divides.{IsCommon}
use Rattle.lrp_model.specs.Periods.{periods, test_periods}
use Rattle.lrp_model.specs.Steps.{Steps, formula_at, reach_at, join, select, minus, complement, leaf, step_after}
use Rattle.lrp_model.specs.Conjunctions.{Taken, is_test, select_each, take_in}
use Rattle.lrp_model.specs.declared.relations.Relation.{Relation}
use Rattle.lrp_model.specs.declared.formulas.Test.{Test}
use Rattle.lrp_model.specs.declared.formulas.Test.TheVariants.{Compare, Member, Equal}
use Rattle.lrp_plan_laws.proofs.Elements.{formula_front, split_all}
use Rattle.lrp_core.specs.FreeVariables.{variable_of, with_variables}
use Rattle.lrp_plan.specs.declared.drafts.PlannedOperand.{PlannedOperand}
use Rattle.lrp_plan.specs.declared.drafts.Draft.{Draft}
use Rattle.lrp_plan.specs.declared.taking.Taking.{Taking}
use Rattle.lrp_limits.specs.Capped.{capped}
use Rattle.lrp_limits.specs.Multiples.{IsLeastWithinLimit}
use Rattle.lrp_plan.specs.Drafts.{IsPlannedOperand, IsDraft, AreTests, Extends, ExtendsBoth}
use Rattle.lrp_plan.specs.Taking.{covers, AreUncovered, HaveSame, IsSoFar, IsTaking, carrying, Carries, Splits, TakesIn, TakesTest, taking_off, Subtracts, after_negation, taken_with, TakesOff}
use Rattle.lrp_plan.proofs.Members.{are_among_same, more_same}
use Rattle.lrp_plan.proofs.Settled.{left_fail, still_uncovered}

-- ---- an earlier step stays as more are made

get_front : {X : Type 0} (xs ys : List X) (i : ℕ) → suc i ≤ length xs → slice_get (xs ++ ys) i ≡ slice_get xs i
get_front [] ys i lt = absurd (omega arith)
get_front (x ∷ xs) ys zero lt = refl
get_front (x ∷ xs) ys (suc i) lt = get_front xs ys i (omega arith)

reach_front : (steps more : Steps) (i : ℕ) → i ≤ length steps → reach_at (steps ++ more) i ≡ reach_at steps i
reach_front steps more zero le = refl
reach_front steps more (suc i) le = ap (λ o. unwrap_or (option_map (λ step. step.reach) o) 0) (get_front steps more i le)

pub operand_grows : (db : List Relation) (K : ℕ) (steps more : Steps) (i : ℕ) (o : PlannedOperand) → IsPlannedOperand db K steps i o → IsPlannedOperand db K (steps ++ more) i o
operand_grows db K steps more i o h =
    let f : formula_at (steps ++ more) i ≡ formula_at steps i = formula_front steps more i h.within in
    record {
      within = (let w : i ≤ length steps = h.within in let l : length (steps ++ more) ≡ length steps + length more = length-append steps more in omega arith);
      number = h.number;
      period = subst (λ g. IsLeastWithinLimit (periods g db) o.period.number) (sym f) h.period;
      reach = h.reach ∙ ap capped (sym (reach_front steps more i h.within));
      divides = subst (λ g. IsCommon (periods g db) K) (sym f) h.divides;
    }

result_grows : (db : List Relation) (K : ℕ) (steps more : Steps) (o : Option PlannedOperand) (taken : Taken) → IsSoFar db K steps o taken → IsSoFar db K (steps ++ more) o taken
result_grows db K steps more None taken h = h
result_grows db K steps more (Some o) taken h = (h.0, operand_grows db K steps more taken.result o h.1)

pub taking_grows : (db : List Relation) (K : ℕ) (steps more : Steps) (taking : Taking) (taken : Taken) (ts : List Test) → IsTaking db K steps taking taken ts → IsTaking db K (steps ++ more) taking taken ts
taking_grows db K steps more taking taken ts h = record { result = result_grows db K steps more taking.result taken h.result; variables = h.variables; remain = h.remain; tests = h.tests; settled = h.settled }

-- ---- tests, one by one

select_each_push : (ts : List Test) (t : Test) (M : Structure) (steps : Steps) → select_each (ts ++ t ∷ []) M steps ≡ select t M (select_each ts M steps)
select_each_push [] t M steps = refl
select_each_push (u ∷ ts) t M steps = select_each_push ts t M (select u M steps)

tests_split : (ts : List Test) (t : Test) → AreTests (ts ++ t ∷ []) → AreTests ts × AreTests (t ∷ [])
tests_split [] t h = (tt, h)
tests_split (u ∷ ts) t h = let r = tests_split ts t h.1 in ((h.0, r.0), r.1)

pub select_more : (ts : List Test) (t : Test) (old mid new : Draft) → ((M : Structure) (K : ℕ) → AreTests ts → Extends M K (select_each ts) old mid) → ((M : Structure) (K : ℕ) → AreTests (t ∷ []) → Extends M K (select t) mid new)
    → (M : Structure) (K : ℕ) → AreTests (ts ++ t ∷ []) → Extends M K (select_each (ts ++ t ∷ [])) old new
select_more ts t old mid new h k M K a = record {
  follows = λ planned d.
      let r = tests_split ts t a in
      subst (IsDraft M.relations K new) (sym (select_each_push ts t M planned)) ((k M K r.1).follows (select_each ts M planned) ((h M K r.0).follows planned d));
}

-- ---- what is taken in

pub carry_some : {T E : Type 0} (r : Result T E) (result : Option PlannedOperand) (o : PlannedOperand) (tests : List Test) (old new : Draft) → result ≡ Some o → OnOk r ((M : Structure) (K : ℕ) → AreTests tests → ExtendsBoth M K o (λ n. join n tests) old new) → OnOk r (Carries result tests old new)
carry_some (Ok x) result o tests old new e h = record {
  follows = λ M K steps taken a d w.
      let v : IsSoFar M.relations K steps (Some o) taken = subst (λ z. IsSoFar M.relations K steps z taken) e w in
      subst (λ b. IsDraft M.relations K new (cond b (join taken.result tests M steps) (select_each tests M steps))) (sym v.0) ((h M K a).follows steps taken.result d v.1);
}
carry_some (Err x) result o tests old new e h = tt

pub carry_none : {T E : Type 0} (r : Result T E) (result : Option PlannedOperand) (tests : List Test) (old new : Draft) → result ≡ None → OnOk r ((M : Structure) (K : ℕ) → AreTests tests → Extends M K (select_each tests) old new) → OnOk r (Carries result tests old new)
carry_none (Ok x) result tests old new e h = record {
  follows = λ M K steps taken a d w.
      let v : taken.some ≡ false = subst (λ z. IsSoFar M.relations K steps z taken) e w in
      subst (λ b. IsDraft M.relations K new (cond b (join taken.result tests M steps) (select_each tests M steps))) (sym v) ((h M K a).follows steps d);
}
carry_none (Err x) result tests old new e h = tt

pub takes_in : (vs : List Variable) (old new : Taking) (before after : Draft) (carried : List Test) (settled : Bool) → settled ≡ (old.settled && are_among vs (map variable_of old.variables)) → map variable_of new.variables ≡ with_variables (map variable_of old.variables) vs
    → Splits settled (map variable_of new.variables) old.tests carried new.tests → new.result ≡ Some after.last → Carries old.result carried before after → TakesIn vs old new before after
takes_in vs old new before after carried settled s e split r h = record {
  follows = λ M K f steps state same d t.
      let u : settled ≡ true → AreUncovered (map variable_of new.variables) old.tests = still_uncovered settled old.settled (map variable_of old.variables) (map variable_of new.variables) vs old.tests s e t.settled in
      let c : carried ≡ filter (covers (map variable_of new.variables)) old.tests = split.carries u in
      let l : new.tests ≡ filter (λ t. not (covers (map variable_of new.variables) t)) old.tests = split.leaves u in
      let ws : List Variable = state.taken.variables ++ free f in
      let have : HaveSame (map variable_of new.variables) ws = subst (λ us. HaveSame us ws) (sym e) (more_same (map variable_of old.variables) state.taken.variables vs (free f) t.variables same) in
      let agree : (u : Test) → covers (map variable_of new.variables) u ≡ are_among (free (test u)) ws = λ u. are_among_same (free (test u)) (free (test u)) (map variable_of new.variables) ws (record { each = λ v. refl }) have in
      let cs : carried ≡ filter (λ u. are_among (free (test u)) ws) state.tests = c ∙ filter_agree (covers (map variable_of new.variables)) (λ u. are_among (free (test u)) ws) agree old.tests ∙ ap (filter (λ u. are_among (free (test u)) ws)) t.remain in
      let ls : new.tests ≡ filter (λ u. not (are_among (free (test u)) ws)) state.tests = l ∙ filter_agree (λ u. not (covers (map variable_of new.variables) u)) (λ u. not (are_among (free (test u)) ws)) (λ u. ap not (agree u)) old.tests ∙ ap (filter (λ u. not (are_among (free (test u)) ws))) t.remain in
      let both = (split_all (λ u. is_test u ≡ true) (covers (map variable_of new.variables)) old.tests).0 t.tests in
      let d' : IsDraft M.relations K after (carrying state.taken carried M steps) = h.follows M K steps state.taken (subst AreTests (sym c) both.0) d t.result in
      let d'' : IsDraft M.relations K after (carrying state.taken (filter (λ u. are_among (free (test u)) ws) state.tests) M steps) = subst (λ us. IsDraft M.relations K after (carrying state.taken us M steps)) cs d' in
      record {
        made = d'';
        took = record {
          result = subst (λ o. IsSoFar M.relations K (take_in M f steps state).steps o (take_in M f steps state).taken) (sym r) (refl, d''.last);
          variables = have;
          remain = ls;
          tests = subst AreTests (sym l) both.1;
          settled = λ y. subst (AreUncovered (map variable_of new.variables)) (sym l) (left_fail (covers (map variable_of new.variables)) old.tests);
        };
      };
}

no_period : (t : Test) → is_test t ≡ true → test_periods t ≡ []
no_period (Compare left op right) e = refl
no_period (Member term point) e = cc
no_period (Equal left right) e = refl

pub takes_test : (t : Test) (vs : List Variable) (old new : Taking) (before mid after : Draft) → HaveSame vs (free (test t)) → ((M : Structure) (K : ℕ) → IsCommon (test_periods t) K → Extends M K (leaf t) before mid) → TakesIn vs old new mid after → TakesTest t old new before after
takes_test t vs old new before mid after same h k = record {
  follows = λ M K state ts d w a.
      k.follows M K (test t) (leaf t M state.steps) (record state { tests = ts }) same
      ((h M K (subst (λ ks. IsCommon ks K) (sym (no_period t a.0)) tt)).follows state.steps d)
      (taking_grows M.relations K state.steps (step_after M _ (test t) state.steps ∷ []) old state.taken ts w);
}

-- ---- what is taken off

pub subtract_covered : {T E : Type 0} (r : Result T E) (result : Option PlannedOperand) (o : PlannedOperand) (covered : Bool) (old new : Draft) → result ≡ Some o → covered ≡ true → OnOk r ((M : Structure) (K : ℕ) → ExtendsBoth M K o minus old new) → OnOk r (Subtracts result covered old new)
subtract_covered (Ok x) result o covered old new e c h = record {
  follows = λ M K steps taken d w.
      let v : IsSoFar M.relations K steps (Some o) taken = subst (λ z. IsSoFar M.relations K steps z taken) e w in
      subst (λ b. IsDraft M.relations K new (cond (b && covered) (minus taken.result M steps) (cond b (join taken.result [] M (complement M steps)) (complement M steps)))) (sym v.0)
      (subst (λ b. IsDraft M.relations K new (cond b (minus taken.result M steps) (join taken.result [] M (complement M steps)))) (sym c) ((h M K).follows steps taken.result d v.1));
}
subtract_covered (Err x) result o covered old new e c h = tt

pub subtract_joined : {T E : Type 0} (r : Result T E) (result : Option PlannedOperand) (o : PlannedOperand) (covered : Bool) (none : List Test) (old mid new : Draft) → result ≡ Some o → covered ≡ false → none ≡ [] → ((M : Structure) (K : ℕ) → Extends M K complement old mid)
    → OnOk r ((M : Structure) (K : ℕ) → AreTests none → ExtendsBoth M K o (λ n. join n none) mid new) → OnOk r (Subtracts result covered old new)
subtract_joined (Ok x) result o covered none old mid new e c n g h = record {
  follows = λ M K steps taken d w.
      let v : IsSoFar M.relations K steps (Some o) taken = subst (λ z. IsSoFar M.relations K steps z taken) e w in
      let j : IsDraft M.relations K new (join taken.result none M (complement M steps)) = (h M K (subst AreTests (sym n) tt)).follows (complement M steps) taken.result ((g M K).follows steps d) (operand_grows M.relations K steps (step_after M _ _ steps ∷ []) taken.result o v.1) in
      subst (λ b. IsDraft M.relations K new (cond (b && covered) (minus taken.result M steps) (cond b (join taken.result [] M (complement M steps)) (complement M steps)))) (sym v.0)
      (subst (λ b. IsDraft M.relations K new (cond b (minus taken.result M steps) (join taken.result [] M (complement M steps)))) (sym c) (subst (λ us. IsDraft M.relations K new (join taken.result us M (complement M steps))) n j));
}
subtract_joined (Err x) result o covered none old mid new e c n g h = tt

pub subtract_first : {T E : Type 0} (r : Result T E) (result : Option PlannedOperand) (covered : Bool) (old new : Draft) → result ≡ None → OnOk r ((M : Structure) (K : ℕ) → Extends M K complement old new) → OnOk r (Subtracts result covered old new)
subtract_first (Ok x) result covered old new e h = record {
  follows = λ M K steps taken d w.
      let v : taken.some ≡ false = subst (λ z. IsSoFar M.relations K steps z taken) e w in
      subst (λ b. IsDraft M.relations K new (cond (b && covered) (minus taken.result M steps) (cond b (join taken.result [] M (complement M steps)) (complement M steps)))) (sym v) ((h M K).follows steps d);
}
subtract_first (Err x) result covered old new e h = tt

pub takes_off : (vs : List Variable) (old new : Taking) (before after : Draft) (covered : Bool) → covered ≡ are_among vs (map variable_of old.variables) → map variable_of new.variables ≡ with_variables (map variable_of old.variables) vs
    → new.tests ≡ old.tests → new.settled ≡ false → new.result ≡ Some after.last → Subtracts old.result covered before after → TakesOff vs old new before after
takes_off vs old new before after covered c e l u r h = record {
  follows = λ M K f steps taken tests same d t.
      let b : covered ≡ are_among (free f) taken.variables = c ∙ are_among_same vs (free f) (map variable_of old.variables) taken.variables same t.variables in
      let d' : IsDraft M.relations K after (after_negation taken f M steps) = subst (λ x. IsDraft M.relations K after (taking_off taken x M steps)) b (h.follows M K steps taken d t.result) in (
        d',
        record {
          result = subst (λ o. IsSoFar M.relations K (after_negation taken f M steps) o (taken_with taken f (after_negation taken f M steps))) (sym r) (refl, d'.last);
          variables = subst (λ us. HaveSame us (taken.variables ++ free f)) (sym e) (more_same (map variable_of old.variables) taken.variables vs (free f) t.variables same);
          remain = l ∙ t.remain;
          tests = subst AreTests (sym l) t.tests;
          settled = λ y. absurd (false≢true (sym u ∙ y));
        },
      );
}

pub test_taken : {T E : Type 0} (r : Result T E) (t : Test) (vs : List Variable) (old new : Taking) (before mid after : Draft) → HaveSame vs (free (test t)) → ((M : Structure) (K : ℕ) → IsCommon (test_periods t) K → Extends M K (leaf t) before mid) → OnOk r (TakesIn vs old new mid after) → OnOk r (TakesTest t old new before after)
test_taken (Ok x) t vs old new before mid after same h k = takes_test t vs old new before mid after same h k
test_taken (Err x) t vs old new before mid after same h k = tt
