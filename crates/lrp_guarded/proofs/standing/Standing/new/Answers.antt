use Rattle.std.specs.Option.{is_some as is_there}
use Rattle.lrp_plan.specs.Drafts.{IsPlannedOperand}
use Rattle.std.proofs.Common.{refl, sym, ap, subst, ◌∙◌}
use Rattle.lrp_guarded.proofs.Brings.{stands_alone_first, stands_under, reads_none}
use Rattle.lrp_guarded.proofs.standing.Standing.new.Goals.{in-Some+in_ok-add_variables-in-Some, in-None}
use Rattle.std.proofs.Common.{rules, ◌≡◌, ℕ, Bool, false, true}
use Rattle.std.proofs.Common.{List as ListOf}
use Rattle.std.proofs.Common.{Option as OptionOf}
use Rattle.std.proofs.Common.{filter, not, map, slice_get, IfOk, OnOk, ◌+◌, ◌-◌, ◌*◌, ◌<◌, ◌≤◌, length, ◌/◌, ◌%◌, nat_eq, nat_lt, List, [], ◌∷◌, ◌++◌, slice_index_or, slice_set, bit_and, bit_or, Fits, w8, w32, w64, Bor, MutBor}
use Rattle.lrp_core.specs.FreeVariables.{variable_of, each_once}
use Rattle.lrp_core.specs.declared.core_forms.Core.{Core as CoreForm}
use Rattle.lrp_model.specs.Formulas.{Form}
use Rattle.lrp_model.specs.Steps.{Steps}
use Rattle.lrp_model.specs.Variables.{Variable as VariableOf}
use Rattle.lrp_model.specs.Variables.{free}
use Rattle.lrp_plan_laws.specs.Projections.{PlanGround as Ground}
use Rattle.lrp_plan_laws.specs.GuardedConjunctions.{Standing as StandingOf}
use Rattle.lrp_plan_laws.specs.GuardedConjunctions.{Elements as ElementsOf}
use Rattle.lrp_plan_laws.specs.GuardedConjunctions.{standing_first, begun}
use Rattle.lrp_plan_laws.specs.GuardedConjunctions.{take_atom as atom_taken}
use Rattle.lrp_plan_laws.specs.GuardedConjunctions.{take_sort as sort_taken}
use Rattle.lrp_plan_laws.specs.GuardedConjunctions.{take_one_test as test_taken}
use Rattle.lrp_plan_laws.specs.GuardedConjunctions.{drop_spent as spent_dropped}
use Rattle.lrp_plan_laws.specs.GuardedConjunctions.{bring_each as brought_each}
use Rattle.lrp_plan_laws.specs.GuardedConjunctions.{last_brought}
use Rattle.lrp_plan.specs.Taking.{HaveSame}
use Rattle.lrp_guarded.specs.Making.{IsMaking, MakesTo}
use Rattle.lrp_guarded.specs.Standing.{IsStandingOf as IsStanding, IsGuard, AreElements, FollowsRule as Follows, taking_up, subtracting as taking_off, bringing}
use Rattle.lrp_guarded.proofs.standing.Standing.new.Goals as goal

-- src/standing.rt:50:5
pub returns : goal.returns
returns c = elim c.match-guard.branch [
  | in-Some+in_ok-add_variables-in-Some w ↦ λ over K fs es steps g m h a.
      stands_under c.is_some.result w.in-Some.guard c.match-guard.result c.match-guard.variables w.columns_of.result.now c.new-variables.result c.args.left c.args.block c.args.making.now
      (c.is_some.ensures ∙ ap is_there w.guard-is) w.result-is c.new-variables.ensures (ap (map variable_of) w.variables-is ∙ w.in_ok-add_variables-in-Some.ensures) w.columns_of.ensures
      over K fs es steps g m (subst (λ o. IsGuard over K steps o g) w.in-Some.is h) a
  | in-None w ↦ λ over K fs es steps g m h a.
      stands_alone_first c.is_some.result c.match-guard.result c.match-guard.variables c.args.left c.args.block (c.is_some.ensures ∙ ap is_there (w.guard-is ∙ w.in-None.is)) (w.variables-is ∙ c.new-variables.ensures)
      (λ relations K2 steps2. subst (IsPlannedOperand relations K2 steps2 0) (sym w.result-is) (reads_none relations K2 steps2 w.no_step-result.result w.no_step-result.ensures.number w.no_step-result.ensures.period w.no_step-result.ensures.reach))
      over K fs es steps g (subst (λ o. IsGuard over K steps o g) w.in-None.is h) a
]
