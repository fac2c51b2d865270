use Rattle.std.proofs.Common.{refl, sym, ap, subst, ◌∙◌}
use Rattle.lrp_core.specs.FreeVariables.{with_variables}
use Rattle.lrp_model.specs.Variables.{is_among}
use Rattle.lrp_guarded.proofs.Brings.{BringsEach, brings}
use Rattle.std.proofs.Common.{◌≡◌, ℕ, Bool, false, true}
use Rattle.std.proofs.Common.{List as ListOf}
use Rattle.std.proofs.Common.{Option as OptionOf}
use Rattle.std.proofs.Common.{filter, not, map, slice_get, IfOk, OnOk, ◌+◌, ◌-◌, ◌*◌, ◌<◌, ◌≤◌, length}
use Rattle.lrp_core.specs.FreeVariables.{variable_of, each_once}
use Rattle.lrp_core.specs.declared.core_forms.Core.{Core as CoreForm}
use Rattle.lrp_model.specs.Formulas.{Form}
use Rattle.lrp_model.specs.Steps.{Steps}
use Rattle.lrp_model.specs.Variables.{Variable as VariableOf}
use Rattle.lrp_model.specs.Variables.{free}
use Rattle.lrp_plan_laws.specs.Projections.{PlanGround as Ground}
use Rattle.lrp_plan_laws.specs.GuardedConjunctions.{Standing as StandingOf}
use Rattle.lrp_plan_laws.specs.GuardedConjunctions.{Elements as ElementsOf}
use Rattle.lrp_plan_laws.specs.GuardedConjunctions.{standing_first, begun}
use Rattle.lrp_plan_laws.specs.GuardedConjunctions.{take_atom as atom_taken}
use Rattle.lrp_plan_laws.specs.GuardedConjunctions.{take_sort as sort_taken}
use Rattle.lrp_plan_laws.specs.GuardedConjunctions.{take_one_test as test_taken}
use Rattle.lrp_plan_laws.specs.GuardedConjunctions.{drop_spent as spent_dropped}
use Rattle.lrp_plan_laws.specs.GuardedConjunctions.{bring_each as brought_each}
use Rattle.lrp_plan_laws.specs.GuardedConjunctions.{last_brought}
use Rattle.lrp_plan.specs.Taking.{HaveSame}
use Rattle.lrp_guarded.specs.Making.{IsMaking, MakesTo}
use Rattle.lrp_guarded.specs.Standing.{IsStandingOf as IsStanding, IsGuard, AreElements, FollowsRule as Follows, taking_up, subtracting as taking_off, bringing}
use Rattle.lrp_guarded.proofs.standing.Standing.bring.Goals as goal

-- src/standing.rt:205:5
pub returns-in_ok-add_variables : goal.returns-in_ok-add_variables
returns-in_ok-add_variables c = brings c.args.variables.now c.in_ok-missing.missing c.add_variables.new.all c.in_ok-self.field-0 c.args.making.now c.bring_each.new.making c.args.self.now c.if-self.true
    (c.in_ok-missing.ensures ∙ ap (λ us. filter (λ v. not (is_among (map variable_of us) v)) (map variable_of c.args.variables.now)) c.as_slice.ensures)
    (c.in_ok-add_variables.ensures ∙ ap (λ us. with_variables (map variable_of c.args.self.now.variables) (map variable_of us)) c.as_slice-then-self-2.ensures)
    (subst (λ us. BringsEach c.args.self.now.result (map variable_of us) c.args.making.now c.bring_each.new.making c.in_ok-self.field-0) c.as_slice-then-self.ensures c.in_ok-self.ensures)
