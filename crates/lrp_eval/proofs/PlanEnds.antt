-- The last step of a sound plan, and the step before it.
use Rattle.std.proofs.Common.{◌≡◌, ◌≤◌, ◌<◌, ◌-◌, ℕ, zero, suc, length, Option, Some, None, option_map, unwrap_or, refl, ap, ◌∙◌, arith}
use Rattle.std.specs.Prelude.{List, MatchOption}
use Rattle.lrp_model.specs.Formulas.{Question, conjunction, no_forms}
use Rattle.lrp_model.specs.Core.{guarded, has_named_sort}
use Rattle.lrp_model.specs.Steps.{PlanStep, Steps, step_at, formula_at}
use Rattle.lrp_model.specs.Plans.{query_reach}
use Rattle.lrp_model.specs.declared.relations.Relation.{Relation}
use Rattle.lrp_model.specs.declared.plans.StepKind.TheVariants.{Extend}
use Rattle.lrp_plan_laws.specs.Rising.{period_at}
use Rattle.lrp_plan_laws.specs.Settled.{IsSoundPlan}

some_before : (steps : Steps) (n : ℕ) (step : PlanStep) → step_at steps n ≡ Some step → 0 < n
some_before steps zero step at = cc
some_before steps (suc n) step at = omega arith

module _ {planned : Steps} {db : List Relation} {q : Question} (sound : IsSoundPlan planned db q) where
  -- the last step is `head`
  pub record IsLastStep (step : PlanStep) : Type 0 where
    pub at : step_at planned (length planned) ≡ Some step
    pub kind : step.kind ≡ Extend (length planned - 1)
    pub formula : step.formula ≡ guarded (has_named_sort db) q.head q.body

  by_last : (o : Option PlanStep) → step_at planned (length planned) ≡ o
      → MatchOption o ⊥ (λ step. (step.kind ≡ Extend (length planned - 1)) × (step.formula ≡ guarded (has_named_sort db) q.head q.body))
      → (step : PlanStep) × IsLastStep step
  by_last None at h = absurd h
  by_last (Some step) at h = (step, record { at = at; kind = h.0; formula = h.1 })

  pub last_step : (step : PlanStep) × IsLastStep step
  last_step = by_last (step_at planned (length planned)) refl sound.head

  pub some_steps : 0 < length planned
  some_steps = some_before planned (length planned) last_step.0 last_step.1.at

  pub last_formula : formula_at planned (length planned) ≡ guarded (has_named_sort db) q.head q.body
  last_formula = ap (λ o. unwrap_or (option_map (λ step. step.formula) o) (conjunction no_forms)) last_step.1.at ∙ last_step.1.formula

  -- no other step is `head`
  pub no_other_head : (s : ℕ) (step : PlanStep) → step_at planned s ≡ Some step → s < length planned → (of : ℕ) → step.kind ≡ Extend of → ⊥
  no_other_head s step at lt of kind = let same : s ≡ length planned = (sound.each s step at).head of kind in omega arith

  pub wide_last : period_at planned (length planned) ≤ query_reach planned
  wide_last =
      let step = last_step.0 in
      let at : step_at planned (length planned) ≡ Some step = last_step.1.at in
      let w : step.period ≤ step.reach = (sound.each (length planned) step at).rises.wide in
      let k : period_at planned (length planned) ≡ step.period = ap (λ o. unwrap_or (option_map (λ step. step.period) o) 1) at in
      let r : query_reach planned ≡ step.reach = ap (λ o. unwrap_or (option_map (λ step. step.reach) o) 0) at in
      omega (arith, w, k, r)
