use Rattle.std.proofs.Common.{refl, sym, ap, subst, ◌∙◌, map}
use Rattle.lrp_model.specs.RawTerms.{said_term}
use Rattle.lrp_model.specs.Rows.{relation_named, columns_in}
use Rattle.lrp_plan_laws.specs.GuardedConjunctions.{stands_alone}
use Rattle.lrp_guarded.specs.Needs.{sort_element}
use Rattle.lrp_guarded.proofs.TakesUp.{atom_taken as one_taken, atom_past}
use Rattle.std.proofs.Common.{rules, ◌≡◌, ℕ, Bool, false, true}
use Rattle.std.proofs.Common.{List as ListOf}
use Rattle.std.proofs.Common.{Option as OptionOf}
use Rattle.std.proofs.Common.{filter, not, map, slice_get, IfOk, OnOk, ◌+◌, ◌-◌, ◌*◌, ◌<◌, ◌≤◌, length, ◌/◌, ◌%◌, nat_eq, nat_lt, List, [], ◌∷◌, ◌++◌, slice_index_or, slice_set, bit_and, bit_or, Fits, w8, w32, w64, Bor, MutBor}
use Rattle.lrp_core.specs.FreeVariables.{variable_of, each_once}
use Rattle.lrp_core.specs.declared.core_forms.Core.{Core as CoreForm}
use Rattle.lrp_model.specs.Formulas.{Form}
use Rattle.lrp_model.specs.Steps.{Steps}
use Rattle.lrp_model.specs.Variables.{Variable as VariableOf}
use Rattle.lrp_model.specs.Variables.{free}
use Rattle.lrp_plan_laws.specs.Projections.{PlanGround as Ground}
use Rattle.lrp_plan_laws.specs.GuardedConjunctions.{Standing as StandingOf}
use Rattle.lrp_plan_laws.specs.GuardedConjunctions.{Elements as ElementsOf}
use Rattle.lrp_plan_laws.specs.GuardedConjunctions.{standing_first, begun}
use Rattle.lrp_plan_laws.specs.GuardedConjunctions.{drop_spent as spent_dropped}
use Rattle.lrp_plan_laws.specs.GuardedConjunctions.{bring_each as brought_each}
use Rattle.lrp_plan_laws.specs.GuardedConjunctions.{last_brought}
use Rattle.lrp_plan.specs.Taking.{HaveSame}
use Rattle.lrp_guarded.specs.Making.{IsMaking, MakesTo}
use Rattle.lrp_guarded.specs.Standing.{IsStandingOf as IsStanding, IsGuard, AreElements, FollowsRule as Follows, taking_up, subtracting as taking_off, bringing}
use Rattle.lrp_guarded.proofs.standing.Standing.take_atom.Goals as goal

-- src/standing.rt:110:5
pub returns-in_ok-take_up : goal.returns-in_ok-take_up
returns-in_ok-take_up c = one_taken c.args.index c.args.making.now c.leaf.new.self c.take_up.new.making c.args.self.now c.take_up.new.self (record { atoms = c.remove-atom.new.self; sorts = c.in_ok-self.field-0; others = c.args.self.now.left.others; tests = c.args.self.now.left.tests; negations = c.args.self.now.left.negations })
    c.remove-atom.result (subst (λ n. c.args.index < n) (c.len.ensures ∙ c.args.self.now.left.atoms.ok.0) c.if-index-len.true) c.remove-atom.ensures.value c.remove-atom.ensures.items
    (c.in_ok-self.ensures ∙ ap (λ v. filter (λ x. not (stands_alone (sort_element x) (columns_in (relation_named c.args.making.now.sources.now.database.now c.remove-atom.result.relation.now)) (map said_term c.remove-atom.result.terms.now))) v.items) c.replace-sorts.ensures.value) refl refl refl
    c.in_ok-leaf.ensures (λ vs same. c.in_ok-take_up.ensures vs (subst (λ us. HaveSame (map variable_of us) vs) (sym c.as_slice.ensures) same))

-- src/standing.rt:110:5
pub returns-else-index-len : goal.returns-else-index-len
returns-else-index-len c = atom_past c.args.index c.args.making.now c.args.self.now (subst (λ n. n ≤ c.args.index) (c.len.ensures ∙ c.args.self.now.left.atoms.ok.0) c.if-index-len.false)
