use Rattle.std.proofs.Common.{refl, ap₂, arith, sym, ap, subst, ◌∙◌}
use Rattle.lrp_model.specs.Variables.{is_among}
use Rattle.lrp_plan_laws.specs.GuardedConjunctions.{variables_left}
use Rattle.lrp_guarded.specs.Standing.{AreElementsLeft as AreLeft}
use Rattle.lrp_guarded.proofs.Steps.{DropsEach}
use Rattle.lrp_guarded.proofs.Brings.{drops_spent, drops_nothing, drops_so, nothing_left}
use Rattle.lrp_guarded.proofs.standing.Standing.drop_spent.Goals.{then-len-gt0+in_ok-left+in_ok-spent+in_ok-drop_each+in_ok-self, else-len-gt0}
use Rattle.std.proofs.Common.{rules, ◌≡◌, ℕ, Bool, false, true}
use Rattle.std.proofs.Common.{List as ListOf}
use Rattle.std.proofs.Common.{Option as OptionOf}
use Rattle.std.proofs.Common.{filter, not, map, slice_get, IfOk, OnOk, ◌+◌, ◌-◌, ◌*◌, ◌<◌, ◌≤◌, length, ◌/◌, ◌%◌, nat_eq, nat_lt, List, [], ◌∷◌, ◌++◌, slice_index_or, slice_set, bit_and, bit_or, Fits, w8, w32, w64, Bor, MutBor}
use Rattle.lrp_core.specs.FreeVariables.{variable_of, each_once}
use Rattle.lrp_core.specs.declared.core_forms.Core.{Core as CoreForm}
use Rattle.lrp_model.specs.Formulas.{Form}
use Rattle.lrp_model.specs.Steps.{Steps}
use Rattle.lrp_model.specs.Variables.{Variable as VariableOf}
use Rattle.lrp_model.specs.Variables.{free}
use Rattle.lrp_plan_laws.specs.Projections.{PlanGround as Ground}
use Rattle.lrp_plan_laws.specs.GuardedConjunctions.{Standing as StandingOf}
use Rattle.lrp_plan_laws.specs.GuardedConjunctions.{Elements as ElementsOf}
use Rattle.lrp_plan_laws.specs.GuardedConjunctions.{standing_first, begun}
use Rattle.lrp_plan_laws.specs.GuardedConjunctions.{take_atom as atom_taken}
use Rattle.lrp_plan_laws.specs.GuardedConjunctions.{take_sort as sort_taken}
use Rattle.lrp_plan_laws.specs.GuardedConjunctions.{take_one_test as test_taken}
use Rattle.lrp_plan_laws.specs.GuardedConjunctions.{drop_spent as spent_dropped}
use Rattle.lrp_plan_laws.specs.GuardedConjunctions.{bring_each as brought_each}
use Rattle.lrp_plan_laws.specs.GuardedConjunctions.{last_brought}
use Rattle.lrp_plan.specs.Taking.{HaveSame}
use Rattle.lrp_guarded.specs.Making.{IsMaking, MakesTo}
use Rattle.lrp_guarded.specs.Standing.{IsStandingOf as IsStanding, IsGuard, AreElements, FollowsRule as Follows, taking_up, subtracting as taking_off, bringing}
use Rattle.lrp_guarded.proofs.standing.Standing.drop_spent.Goals as goal

-- src/standing.rt:244:5
pub returns : goal.returns
returns c = elim c.if-len-gt0.branch [
  | then-len-gt0+in_ok-left+in_ok-spent+in_ok-drop_each+in_ok-self w ↦
      drops_so c.args.making.now c.if-len-gt0.making c.args.self.now c.if-len-gt0.self w.drop_each.new.self w.in_ok-self.field-0 w.making-is w.self-is
      (drops_spent c.args.making.now w.drop_each.new.self c.args.self.now w.in_ok-left.left w.in_ok-spent.spent w.in_ok-self.field-0 w.in_ok-drop_each.field-0 w.in_ok-left.ensures
      (record {
        spent_are = w.in_ok-spent.ensures ∙ ap₂ (λ us vs. filter (λ v. not (is_among (map variable_of us) v)) (map variable_of vs)) w.as_slice-then-len-gt0.ensures w.as_slice.ensures;
        kept_are = w.in_ok-self.ensures ∙ ap₂ (λ us vs. filter (is_among (map variable_of us)) (map variable_of vs)) w.as_slice-then-len-gt0-4.ensures w.as_slice-then-len-gt0-3.ensures;
      })
      (subst (λ us. DropsEach c.args.self.now.result (map variable_of us) c.args.making.now w.drop_each.new.self w.in_ok-drop_each.field-0) w.as_slice-then-len-gt0-2.ensures w.in_ok-drop_each.ensures))
  | else-len-gt0 w ↦
      drops_so c.args.making.now c.if-len-gt0.making c.args.self.now c.if-len-gt0.self c.args.making.now c.args.self.now.block w.making-is w.self-is
      (drops_nothing c.args.making.now c.args.making.now c.args.self.now (nothing_left c.len.result (length c.args.self.now.block) c.len.ensures w.if-len-gt0.false) refl)
]
