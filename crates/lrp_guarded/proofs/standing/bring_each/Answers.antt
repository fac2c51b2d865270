use Rattle.std.proofs.Common.{subst}
use Rattle.lrp_plan.proofs.Planned.{take_all_of}
use Rattle.lrp_guarded.proofs.Brings.{BringsEach, brings_none, brings_more}
use Rattle.std.proofs.Common.{◌≡◌, ℕ, Bool, false, true}
use Rattle.std.proofs.Common.{List as ListOf}
use Rattle.std.proofs.Common.{Option as OptionOf}
use Rattle.std.proofs.Common.{filter, not, map, slice_get, IfOk, OnOk, ◌+◌, ◌-◌, ◌*◌, ◌<◌, ◌≤◌, length}
use Rattle.lrp_core.specs.FreeVariables.{variable_of, each_once}
use Rattle.lrp_core.specs.declared.core_forms.Core.{Core as CoreForm}
use Rattle.lrp_model.specs.Formulas.{Form}
use Rattle.lrp_model.specs.Steps.{Steps}
use Rattle.lrp_model.specs.Variables.{Variable as VariableOf}
use Rattle.lrp_model.specs.Variables.{free}
use Rattle.lrp_plan_laws.specs.Projections.{PlanGround as Ground}
use Rattle.lrp_plan_laws.specs.GuardedConjunctions.{Standing as StandingOf}
use Rattle.lrp_plan_laws.specs.GuardedConjunctions.{Elements as ElementsOf}
use Rattle.lrp_plan_laws.specs.GuardedConjunctions.{standing_first, begun}
use Rattle.lrp_plan_laws.specs.GuardedConjunctions.{take_atom as atom_taken}
use Rattle.lrp_plan_laws.specs.GuardedConjunctions.{take_sort as sort_taken}
use Rattle.lrp_plan_laws.specs.GuardedConjunctions.{take_one_test as test_taken}
use Rattle.lrp_plan_laws.specs.GuardedConjunctions.{drop_spent as spent_dropped}
use Rattle.lrp_plan_laws.specs.GuardedConjunctions.{bring_each as brought_each}
use Rattle.lrp_plan_laws.specs.GuardedConjunctions.{last_brought}
use Rattle.lrp_plan.specs.Taking.{HaveSame}
use Rattle.lrp_guarded.specs.Making.{IsMaking, MakesTo}
use Rattle.lrp_guarded.specs.Standing.{IsStandingOf as IsStanding, IsGuard, AreElements, FollowsRule as Follows, taking_up, subtracting as taking_off, bringing}
use Rattle.lrp_guarded.proofs.standing.bring_each.Goals as goal

-- src/standing.rt:273:5
pub loop-variable-init : goal.loop-variable-init
loop-variable-init c = brings_none c.args.of c.args.making.now

-- src/standing.rt:273:5
pub loop-variable-preserved : goal.loop-variable-preserved
loop-variable-preserved c = brings_more c.args.of c.args.variables.now c.loop-variable.variable-index c.variable-item.result c.args.making.now c.loop-variable.making c.test.new.self c.join.new.self c.loop-variable.last c.in_ok-any_value.field-0 c.new.result c.loop-variable-test.true c.variable-item.is c.loop-variable.invariant c.in_ok-any_value.ensures c.in_ok-test.ensures c.new.ensures c.in_ok-join.ensures

-- src/standing.rt:260:1
pub returns : goal.returns
returns c = subst (λ xs. BringsEach c.args.of (map variable_of xs) c.args.making.now c.loop-variable.making c.loop-variable.last) (take_all_of c.args.variables.now c.loop-variable.variable-index c.loop-variable-test.false) c.loop-variable.invariant
