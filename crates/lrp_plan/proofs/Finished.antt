-- The planner's steps at the end: where no reach is above 2^62, they are those of the plan.
use Rattle.std.proofs.Common.{◌≡◌, ◌≤◌, ◌^◌, ℕ, suc, List, [], ◌∷◌, Some, slice_get, refl, ap, ◌∙◌, arith, pos}
use Rattle.std.specs.List.{AllZip}
use Rattle.lrp_model.specs.Formulas.{Question}
use Rattle.lrp_model.specs.Core.{HasElements}
use Rattle.lrp_model.specs.Steps.{PlanStep, Steps}
use Rattle.lrp_model.specs.Plans.{plan, query_reach, IsStep}
use Rattle.lrp_model.specs.declared.relations.Relation.{Relation}
use Rattle.lrp_model.specs.declared.plans.Step.{Step}
use Rattle.lrp_plan_laws.specs.Rising.{HasPeriods, IsRising}
use Rattle.lrp_plan_laws.proofs.RisingLaws.{rises}
use Rattle.lrp_plan.specs.declared.drafts.Draft.{Draft}
use Rattle.lrp_limits.specs.Capped.{capped}
use Rattle.lrp_plan.specs.Drafts.{IsDraft, IsDraftOf}

-- each step whose reach is at most 2^62 is the step of the plan
exact : (steps : List Step) (planned : Steps) → AllZip IsDraftOf steps planned → ((i : ℕ) (p : PlanStep) → slice_get planned i ≡ Some p → p.reach ≤ 2 ^ 62) → AllZip IsStep steps planned
exact [] [] h low = tt
exact [] (p ∷ ps) h low = absurd h
exact (s ∷ ss) [] h low = absurd h
exact (s ∷ ss) (p ∷ ps) h low =
    let r : p.reach ≤ 2 ^ 62 = low 0 p refl in
    let c : capped p.reach ≡ p.reach = omega arith in
    (record { kind = h.0.kind; period = h.0.period; reach = h.0.reach ∙ ap pos c }, exact ss ps h.1 (λ i q e. low (suc i) q e))

-- the steps of a draft of a whole plan in which no reach is above the query's, where that is at most 2^62
pub finished : (db : List Relation) (K : ℕ) (draft : Draft) (planned : Steps) → ((i : ℕ) (p : PlanStep) → slice_get planned i ≡ Some p → p.reach ≤ query_reach planned) → query_reach planned ≤ 2 ^ 62 → IsDraft db K draft planned → AllZip IsStep draft.steps planned
finished db K draft planned below low d = exact draft.steps planned d.steps (λ i p e. let b : p.reach ≤ query_reach planned = below i p e in omega arith)

-- as in the plan of a query as it is written
pub none_above : (db : List Relation) (q : Question) → HasElements q.body → HasPeriods db q → (i : ℕ) (p : PlanStep) → slice_get (plan db q) i ≡ Some p → p.reach ≤ query_reach (plan db q)
none_above db q h low i p e = let r : IsRising (plan db q) db q (suc i) p = rises db q h low (suc i) p e in r.below
