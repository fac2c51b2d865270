use Rattle.std.proofs.Common.{ap₂}
use Rattle.std.proofs.Common.{ap, ◌∙◌, filter, not, map}
use Rattle.lrp_plan.specs.Taking.{covers}
use Rattle.lrp_guarded.proofs.Stands.{begins}
use Rattle.std.proofs.Common.{rules, ◌≡◌, ℕ, Bool, false, true}
use Rattle.std.proofs.Common.{List as ListOf}
use Rattle.std.proofs.Common.{Option as OptionOf}
use Rattle.std.proofs.Common.{filter, not, map, slice_get, IfOk, OnOk, ◌+◌, ◌-◌, ◌*◌, ◌<◌, ◌≤◌, length, ◌/◌, ◌%◌, nat_eq, nat_lt, List, [], ◌∷◌, ◌++◌, slice_index_or, slice_set, bit_and, bit_or, Fits, w8, w32, w64, Bor, MutBor}
use Rattle.lrp_core.specs.FreeVariables.{variable_of, each_once}
use Rattle.lrp_core.specs.declared.core_forms.Core.{Core as CoreForm}
use Rattle.lrp_model.specs.Formulas.{Form}
use Rattle.lrp_model.specs.Steps.{Steps}
use Rattle.lrp_model.specs.Variables.{Variable as VariableOf}
use Rattle.lrp_model.specs.Variables.{free}
use Rattle.lrp_plan_laws.specs.Projections.{PlanGround as Ground}
use Rattle.lrp_plan_laws.specs.GuardedConjunctions.{Standing as StandingOf}
use Rattle.lrp_plan_laws.specs.GuardedConjunctions.{Elements as ElementsOf}
use Rattle.lrp_plan_laws.specs.GuardedConjunctions.{standing_first, begun}
use Rattle.lrp_plan_laws.specs.GuardedConjunctions.{take_atom as atom_taken}
use Rattle.lrp_plan_laws.specs.GuardedConjunctions.{take_sort as sort_taken}
use Rattle.lrp_plan_laws.specs.GuardedConjunctions.{take_one_test as test_taken}
use Rattle.lrp_plan_laws.specs.GuardedConjunctions.{drop_spent as spent_dropped}
use Rattle.lrp_plan_laws.specs.GuardedConjunctions.{bring_each as brought_each}
use Rattle.lrp_plan_laws.specs.GuardedConjunctions.{last_brought}
use Rattle.lrp_plan.specs.Taking.{HaveSame}
use Rattle.lrp_guarded.specs.Making.{IsMaking, MakesTo}
use Rattle.lrp_guarded.specs.Standing.{IsStandingOf as IsStanding, IsGuard, AreElements, FollowsRule as Follows, taking_up, subtracting as taking_off, bringing}
use Rattle.lrp_guarded.proofs.standing.Standing.begin.Goals as goal

-- src/standing.rt:96:5
pub returns-in_ok-self : goal.returns-in_ok-self
returns-in_ok-self c = begins c.in_ok-carried.carried c.in_ok-carried.left c.in_ok-self.field-0 c.args.making.now c.select_each.new.self c.args.self.now c.if-self.true (c.in_ok-carried.ensures.covered ∙ ap₂ (λ us ts. filter (covers (map variable_of us)) ts) c.as_slice.ensures c.replace-tests.ensures.value) (c.in_ok-carried.ensures.others ∙ ap₂ (λ us ts. filter (λ t. not (covers (map variable_of us) t)) ts) c.as_slice.ensures c.replace-tests.ensures.value) (c.in_ok-self.ensures)
