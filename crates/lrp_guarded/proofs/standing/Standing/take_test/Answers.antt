use Rattle.std.proofs.Common.{get_or, remove}
use Rattle.lrp_model.specs.declared.formulas.Test.{Test as TestOf}
use Rattle.lrp_model.specs.Variables.{variables_of_test}
use Rattle.lrp_guarded.proofs.Same.{same_once}
use Rattle.std.proofs.Common.{refl, sym, ap, subst, ◌∙◌}
use Rattle.lrp_guarded.proofs.TakesUp.{test_taken as one_taken, test_past}
use Rattle.std.proofs.Common.{rules, ◌≡◌, ℕ, Bool, false, true}
use Rattle.std.proofs.Common.{List as ListOf}
use Rattle.std.proofs.Common.{Option as OptionOf}
use Rattle.std.proofs.Common.{filter, not, map, slice_get, IfOk, OnOk, ◌+◌, ◌-◌, ◌*◌, ◌<◌, ◌≤◌, length, ◌/◌, ◌%◌, nat_eq, nat_lt, List, [], ◌∷◌, ◌++◌, slice_index_or, slice_set, bit_and, bit_or, Fits, w8, w32, w64, Bor, MutBor}
use Rattle.lrp_core.specs.FreeVariables.{variable_of, each_once}
use Rattle.lrp_core.specs.declared.core_forms.Core.{Core as CoreForm}
use Rattle.lrp_model.specs.Formulas.{Form}
use Rattle.lrp_model.specs.Steps.{Steps}
use Rattle.lrp_model.specs.Variables.{Variable as VariableOf}
use Rattle.lrp_model.specs.Variables.{free}
use Rattle.lrp_plan_laws.specs.Projections.{PlanGround as Ground}
use Rattle.lrp_plan_laws.specs.GuardedConjunctions.{Standing as StandingOf}
use Rattle.lrp_plan_laws.specs.GuardedConjunctions.{Elements as ElementsOf}
use Rattle.lrp_plan_laws.specs.GuardedConjunctions.{standing_first, begun}
use Rattle.lrp_plan_laws.specs.GuardedConjunctions.{drop_spent as spent_dropped}
use Rattle.lrp_plan_laws.specs.GuardedConjunctions.{bring_each as brought_each}
use Rattle.lrp_plan_laws.specs.GuardedConjunctions.{last_brought}
use Rattle.lrp_plan.specs.Taking.{HaveSame}
use Rattle.lrp_guarded.specs.Making.{IsMaking, MakesTo}
use Rattle.lrp_guarded.specs.Standing.{IsStandingOf as IsStanding, IsGuard, AreElements, FollowsRule as Follows, taking_up, subtracting as taking_off, bringing}
use Rattle.lrp_guarded.proofs.standing.Standing.take_test.Goals as goal

-- src/standing.rt:157:5
pub returns-in_ok-take_up : goal.returns-in_ok-take_up
returns-in_ok-take_up c =
    let all : c.into_vec-tests.result.items ≡ c.args.self.now.left.tests = c.into_vec-tests.ensures ∙ c.replace.ensures.value in
    one_taken c.args.index c.args.making.now c.test.new.self c.take_up.new.making c.args.self.now c.take_up.new.self (record { atoms = c.args.self.now.left.atoms; sorts = c.args.self.now.left.sorts; others = c.args.self.now.left.others; tests = c.from_vec.result; negations = c.args.self.now.left.negations })
    c.remove-test.result c.in_ok-variables.variables (subst (λ n. c.args.index < n) c.len.ensures c.if-index-len.true) (c.remove-test.ensures.value ∙ ap (λ ts. get_or ts c.args.index c.remove-test.result) all) (c.from_vec.ensures ∙ c.remove-test.ensures.items ∙ ap (λ ts. remove ts c.args.index) all) refl refl refl refl
    (same_once (map variable_of c.in_ok-variables.variables) (variables_of_test c.remove-test.result) c.in_ok-variables.ensures)
    c.in_ok-test.ensures (λ vs same. c.in_ok-take_up.ensures vs (subst (λ us. HaveSame (map variable_of us) vs) (sym c.as_slice.ensures) same))

-- src/standing.rt:157:5
pub returns-else-index-len : goal.returns-else-index-len
returns-else-index-len c = test_past c.args.index c.args.making.now c.args.self.now (subst (λ n. n ≤ c.args.index) c.len.ensures c.if-index-len.false)
