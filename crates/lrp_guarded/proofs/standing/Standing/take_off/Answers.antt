use Rattle.std.proofs.Common.{subst, sym}
use Rattle.lrp_model.specs.Steps.{minus, complement}
use Rattle.lrp_guarded.specs.Making.{Makes, MakesFrom}
use Rattle.lrp_guarded.proofs.Stands.{off_minus, off_complement}
use Rattle.lrp_guarded.proofs.standing.Standing.take_off.Goals.{then-self+in_ok-minus, else-self+in_ok-complement}
use Rattle.std.proofs.Common.{rules, ◌≡◌, ℕ, Bool, false, true}
use Rattle.std.proofs.Common.{List as ListOf}
use Rattle.std.proofs.Common.{Option as OptionOf}
use Rattle.std.proofs.Common.{filter, not, map, slice_get, IfOk, OnOk, ◌+◌, ◌-◌, ◌*◌, ◌<◌, ◌≤◌, length, ◌/◌, ◌%◌, nat_eq, nat_lt, List, [], ◌∷◌, ◌++◌, slice_index_or, slice_set, bit_and, bit_or, Fits, w8, w32, w64, Bor, MutBor}
use Rattle.lrp_core.specs.FreeVariables.{variable_of, each_once}
use Rattle.lrp_core.specs.declared.core_forms.Core.{Core as CoreForm}
use Rattle.lrp_model.specs.Formulas.{Form}
use Rattle.lrp_model.specs.Steps.{Steps}
use Rattle.lrp_model.specs.Variables.{Variable as VariableOf}
use Rattle.lrp_model.specs.Variables.{free}
use Rattle.lrp_plan_laws.specs.Projections.{PlanGround as Ground}
use Rattle.lrp_plan_laws.specs.GuardedConjunctions.{Standing as StandingOf}
use Rattle.lrp_plan_laws.specs.GuardedConjunctions.{Elements as ElementsOf}
use Rattle.lrp_plan_laws.specs.GuardedConjunctions.{standing_first, begun}
use Rattle.lrp_plan_laws.specs.GuardedConjunctions.{take_atom as atom_taken}
use Rattle.lrp_plan_laws.specs.GuardedConjunctions.{take_sort as sort_taken}
use Rattle.lrp_plan_laws.specs.GuardedConjunctions.{take_one_test as test_taken}
use Rattle.lrp_plan_laws.specs.GuardedConjunctions.{drop_spent as spent_dropped}
use Rattle.lrp_plan_laws.specs.GuardedConjunctions.{bring_each as brought_each}
use Rattle.lrp_plan_laws.specs.GuardedConjunctions.{last_brought}
use Rattle.lrp_plan.specs.Taking.{HaveSame}
use Rattle.lrp_guarded.specs.Making.{IsMaking, MakesTo}
use Rattle.lrp_guarded.specs.Standing.{IsStandingOf as IsStanding, IsGuard, AreElements, FollowsRule as Follows, taking_up, subtracting as taking_off, bringing}
use Rattle.lrp_guarded.proofs.standing.Standing.take_off.Goals as goal

-- src/standing.rt:223:5
pub returns : goal.returns
returns c = λ vs same. elim c.if-self.branch [ then-self+in_ok-minus w ↦ off_minus c.args.variables.now c.add_variables.new.all vs c.args.making.now c.if-self.making c.args.self.now same (c.in_ok-add_variables.ensures) w.if-self.true (subst (λ m. MakesFrom c.args.self.now.result (λ over i. minus i over.structure) c.args.making.now m) (sym w.making-is) w.in_ok-minus.ensures) | else-self+in_ok-complement w ↦ off_complement c.args.variables.now c.add_variables.new.all vs c.args.making.now c.if-self.making c.args.self.now same (c.in_ok-add_variables.ensures) w.if-self.false (subst (λ m. Makes (λ over. complement over.structure) c.args.making.now m) (sym w.making-is) w.in_ok-complement.ensures) ]
