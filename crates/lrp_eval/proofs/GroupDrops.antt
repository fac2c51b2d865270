-- A step that drops a time of the step before it has no more cells than that one.
use Rattle.std.proofs.Common.{◌≡◌, ◌↔◌, ◌<◌, ◌+◌, ◌-◌, ℕ, suc, List, [], length, Some, get_or, sym, ap, subst, ◌∙◌, arith}
use Rattle.std.proofs.lemmas.Option.{slice_get-get_or}
use Rattle.lrp_model.specs.Texts.{Identifier, without}
use Rattle.lrp_model.specs.Formulas.{Question}
use Rattle.lrp_model.specs.Satisfaction.{Satisfies, structure}
use Rattle.lrp_model.specs.Variables.{free}
use Rattle.lrp_model.specs.Domains.{constants}
use Rattle.lrp_model.specs.Caps.{ManyAt, step_variables}
use Rattle.lrp_model.specs.Steps.{PlanStep, Steps, formula_at, step_at}
use Rattle.lrp_model.specs.declared.plans.Step.{Step}
use Rattle.lrp_model.specs.declared.relations.Relation.{Relation}
use Rattle.lrp_model.specs.declared.plans.StepKind.{StepKind}
use Rattle.lrp_model.specs.declared.plans.StepKind.TheVariants.{DropTime, Extend}
use Rattle.lrp_tables.specs.declared.table.Table.{Table}
use Rattle.lrp_tables.specs.Caps.{InhabitsMoreThan}
use Rattle.lrp_tables.specs.Tables.{named_variables}
use Rattle.lrp_dropping.specs.Without.{IsTimeCompleted}
use Rattle.lrp_periods.specs.Parts.{part_texts, part_times}
use Rattle.lrp_plan_laws.specs.Rising.{period_at}
use Rattle.lrp_plan_laws.proofs.Elements.{found, within}
use Rattle.lrp_eval.specs.Grouped.{AreStepsInParts, IsLastDropped, IsNextStep, IsStepInParts, next_step_number}
use Rattle.lrp_eval.specs.Planned.{IsPlanOf}
use Rattle.lrp_eval.specs.Running.{SameVariables}
use Rattle.lrp_eval.specs.declared.groups.Group.{Group}
use Rattle.lrp_eval.proofs.Counted.{many_at}
use Rattle.lrp_eval.proofs.Denotes.{Set}
use Rattle.lrp_eval.proofs.GroupLaws.{of_next}
use Rattle.lrp_eval.proofs.Nexts.{own_variables, suc_pred}
use Rattle.lrp_eval.proofs.ShownLaws.{IsShown, drop_shown, formula_is, period_is, shown_few}

-- the meaning of a step with few cells is shown to have few
module _ (planned : Steps) (db : List Relation) (q : Question) (cap s : ℕ) (step : PlanStep) (at : step_at planned s ≡ Some step) (parts : List Table) (held : IsStepInParts planned db q s parts) (few : ManyAt planned db q cap s → ⊥) where
  abbrev meaning : Set
  meaning env = Satisfies (formula_at planned s) (structure db q) env

  none : (of : ℕ) → step.kind ≡ Extend of → ⊥
  none of e = held.other step of at e

  formula : formula_at planned s ≡ step.formula
  formula = formula_is planned db q cap s step at

  same : SameVariables (named_variables (part_times parts) (part_texts parts)) (step_variables q.head step)
  same = subst (SameVariables (named_variables (part_times parts) (part_texts parts))) (sym (own_variables step.kind q.head (free step.formula) none ∙ ap free (sym formula))) held.variables

  many : InhabitsMoreThan cap (constants db q) (period_at planned s) (part_times parts) (part_texts parts) meaning → ManyAt planned db q cap s
  many m = (many_at planned db q (named_variables (part_times parts) (part_texts parts)) meaning step s cap at same
      (λ env k. subst (λ f. Satisfies (formula_at planned s) (structure db q) env ↔ Satisfies f (structure db q) env) formula ((λ x. x), λ x. x))).0
      (subst (λ k. InhabitsMoreThan cap (constants db q) k (part_times parts) (part_texts parts) meaning) (period_is planned db q cap s step at) m)

  pub meaning_shown : IsShown planned db q cap s (part_times parts) (part_texts parts) meaning
  meaning_shown = record { variables = held.variables; to = λ env k x. x; from = λ env k x no. no x; few = λ m. few (many m) }

drop_is_none : (k : StepKind) (of l : ℕ) (name : Identifier) → k ≡ DropTime of name → k ≡ Extend l → ⊥
drop_is_none k of l name e f = cc

module _ (cap : ℕ) (g : Group) (planned : Steps) (q : Question) (h : IsPlanOf planned g.database.now q g.plan.now) where
  pub dropped_few : (made : List (List Table)) (step : Step) → IsNextStep g made step → AreStepsInParts planned g.database.now q cap (length g.tables.now) made → IsLastDropped g made step → ManyAt planned g.database.now q cap (next_step_number g made) → ⊥
  dropped_few made step next all drop =
      let n = of_next cap g planned q h made step next in
      let s : ℕ = length g.tables.now + length made in
      let j : ℕ = length made - 1 in
      let some : 0 < length made = drop.some in
      let parts : List Table = get_or made j [] in
      let held : IsStepInParts planned g.database.now q s parts = subst (λ i. IsStepInParts planned g.database.now q i parts) (let e : suc (length g.tables.now + j) ≡ s = omega (arith, some) in e) (all.each j parts (slice_get-get_or made j [] (omega (arith, some)))) in
      let inside : s < length planned = within planned s n.step n.at in
      let y : (y : PlanStep) × (step_at planned (suc (s - 1)) ≡ Some y) = found planned (s - 1) (omega (arith, inside, some)) in
      let at : step_at planned s ≡ Some y.0 = subst (λ i. step_at planned i ≡ Some y.0) (suc_pred s (omega (arith, some))) y.1 in
      let shown = meaning_shown planned g.database.now q cap s y.0 at parts held (all.few s (omega (arith, some)) (omega arith)) in
      let kind : n.step.kind ≡ DropTime s drop.name = sym n.kind_is ∙ drop.kind in
      shown_few planned g.database.now q cap (suc s) n.step n.at (without drop.name (part_times parts)) (part_texts parts) (IsTimeCompleted drop.name (meaning planned g.database.now q cap s y.0 at parts held (all.few s (omega (arith, some)) (omega arith))))
      (λ of e. drop_is_none n.step.kind s of drop.name kind e)
      (drop_shown planned g.database.now q cap h.sound s n.step drop.name n.at kind (part_times parts) (part_texts parts) _ shown)
