use Rattle.std.proofs.Common.{ap₂}
use Rattle.std.proofs.Common.{subst, not, map}
use Rattle.lrp_model.specs.Steps.{join}
use Rattle.lrp_plan.specs.Drafts.{AreTests}
use Rattle.lrp_plan_laws.specs.GuardedConjunctions.{select_each_from, last_selected}
use Rattle.lrp_guarded.specs.Making.{MakesFrom}
use Rattle.lrp_guarded.specs.Making.{MakesTo}
use Rattle.std.proofs.Common.{inl, inr, refl, sym, ap, ◌∙◌, filter}
use Rattle.lrp_plan.specs.Taking.{covers}
use Rattle.lrp_guarded.proofs.Stands.{Grows, up_joined, up_selected}
use Rattle.lrp_guarded.proofs.standing.Standing.take_up.Goals.{then-self+then-is_joined+in_ok-join, else-self+in_ok-select_each, else-self-via-then-self+else-is_joined, else-self-via-else-self}
use Rattle.std.proofs.Common.{rules, ◌≡◌, ℕ, Bool, false, true}
use Rattle.std.proofs.Common.{List as ListOf}
use Rattle.std.proofs.Common.{Option as OptionOf}
use Rattle.std.proofs.Common.{filter, not, map, slice_get, IfOk, OnOk, ◌+◌, ◌-◌, ◌*◌, ◌<◌, ◌≤◌, length, ◌/◌, ◌%◌, nat_eq, nat_lt, List, [], ◌∷◌, ◌++◌, slice_index_or, slice_set, bit_and, bit_or, Fits, w8, w32, w64, Bor, MutBor}
use Rattle.lrp_core.specs.FreeVariables.{variable_of, each_once}
use Rattle.lrp_core.specs.declared.core_forms.Core.{Core as CoreForm}
use Rattle.lrp_model.specs.Formulas.{Form}
use Rattle.lrp_model.specs.Steps.{Steps}
use Rattle.lrp_model.specs.Variables.{Variable as VariableOf}
use Rattle.lrp_model.specs.Variables.{free}
use Rattle.lrp_plan_laws.specs.Projections.{PlanGround as Ground}
use Rattle.lrp_plan_laws.specs.GuardedConjunctions.{Standing as StandingOf}
use Rattle.lrp_plan_laws.specs.GuardedConjunctions.{Elements as ElementsOf}
use Rattle.lrp_plan_laws.specs.GuardedConjunctions.{standing_first, begun}
use Rattle.lrp_plan_laws.specs.GuardedConjunctions.{take_atom as atom_taken}
use Rattle.lrp_plan_laws.specs.GuardedConjunctions.{take_sort as sort_taken}
use Rattle.lrp_plan_laws.specs.GuardedConjunctions.{take_one_test as test_taken}
use Rattle.lrp_plan_laws.specs.GuardedConjunctions.{drop_spent as spent_dropped}
use Rattle.lrp_plan_laws.specs.GuardedConjunctions.{bring_each as brought_each}
use Rattle.lrp_plan_laws.specs.GuardedConjunctions.{last_brought}
use Rattle.lrp_plan.specs.Taking.{HaveSame}
use Rattle.lrp_guarded.specs.Making.{IsMaking, MakesTo}
use Rattle.lrp_guarded.specs.Standing.{IsStandingOf as IsStanding, IsGuard, AreElements, FollowsRule as Follows, taking_up, subtracting as taking_off, bringing}
use Rattle.lrp_guarded.proofs.standing.Standing.take_up.Goals as goal

-- src/standing.rt:179:5
pub returns : goal.returns
returns c = λ vs same. elim c.if-self.branch [ then-self+then-is_joined+in_ok-join w ↦ up_joined c.args.variables.now c.add_variables.new.all c.in_ok-carried.carried c.in_ok-carried.left vs c.args.making.now c.if-self.making c.args.self.now same (record { variables_are = c.in_ok-add_variables.ensures; carried_are = c.in_ok-carried.ensures.covered ∙ ap₂ (λ us ts. filter (covers (map variable_of us)) ts) c.as_slice.ensures c.replace-tests.ensures.value; left_are = c.in_ok-carried.ensures.others ∙ ap₂ (λ us ts. filter (λ t. not (covers (map variable_of us) t)) ts) c.as_slice.ensures c.replace-tests.ensures.value }) c.args.is_joined w.if-self.true w.if-is_joined.true (subst (λ m. AreTests c.in_ok-carried.carried → MakesFrom c.args.self.now.result (λ over i. join i c.in_ok-carried.carried over.structure) c.args.making.now m) (sym w.making-is) w.in_ok-join.ensures) | else-self+in_ok-select_each w ↦ up_selected c.args.variables.now c.add_variables.new.all c.in_ok-carried.carried c.in_ok-carried.left vs c.args.making.now c.if-self.making c.args.self.now same (record { variables_are = c.in_ok-add_variables.ensures; carried_are = c.in_ok-carried.ensures.covered ∙ ap₂ (λ us ts. filter (covers (map variable_of us)) ts) c.as_slice.ensures c.replace-tests.ensures.value; left_are = c.in_ok-carried.ensures.others ∙ ap₂ (λ us ts. filter (λ t. not (covers (map variable_of us) t)) ts) c.as_slice.ensures c.replace-tests.ensures.value }) c.args.is_joined w.in_ok-select_each.field-0 (elim w.else-self.branch [ else-self-via-then-self+else-is_joined u ↦ inr u.if-is_joined.false | else-self-via-else-self u ↦ inl u.if-self.false ]) (subst (λ m. AreTests c.in_ok-carried.carried → MakesTo c.args.making.now.draft.last (λ over i. select_each_from i c.in_ok-carried.carried over.structure) (λ over i steps. last_selected c.in_ok-carried.carried i (select_each_from i c.in_ok-carried.carried over.structure steps)) c.args.making.now m w.in_ok-select_each.field-0) (sym w.making-is) w.in_ok-select_each.ensures) ]
