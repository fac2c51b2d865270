-- What holds of a query's plan by either way of planning.
use Rattle.std.proofs.Common.{◌≡◌, ◌↔◌, ℕ, false, List, ◌++◌, length, Some, Contains, sym, subst}
use Rattle.std.specs.Prelude.{◌-◌}
use Rattle.std.specs.List.{AllByRecursion}
use Rattle.lrp_model.specs.Rows.{Datum, texts_of}
use Rattle.lrp_model.specs.Formulas.{Question}
use Rattle.lrp_model.specs.Variables.{free, head_variables}
use Rattle.lrp_model.specs.Satisfaction.{Satisfies, IsAnswer, structure, assignment, HasShape, HaveDistinctNames}
use Rattle.lrp_model.specs.Domains.{constants}
use Rattle.lrp_model.specs.Core.{has_named_sort, HasElements}
use Rattle.lrp_model.specs.Steps.{PlanStep, step_at, formula_at}
use Rattle.lrp_model.specs.Plans.{core_steps, HasNoNamedSorts}
use Rattle.lrp_model.specs.Periods.{period}
use Rattle.lrp_model.specs.TestPoints.{points}
use Rattle.lrp_model.specs.declared.relations.Relation.{Relation}
use Rattle.lrp_model.specs.declared.plans.Planning.{Planning}
use Rattle.lrp_model.specs.declared.plans.Planning.TheVariants.{Written, Guarded}
use Rattle.lrp_model.specs.declared.plans.StepKind.TheVariants.{Extend}
use Rattle.lrp_plan_laws.specs.GuardedPlans.{plan_by, guarded_steps}
use Rattle.lrp_plan_laws.specs.Made.{AreAmong, IsMade, head_step}
use Rattle.lrp_plan_laws.specs.Points.{step_points}
use Rattle.lrp_plan_laws.specs.Rising.{HasPeriods, IsRising, period_at}
use Rattle.lrp_plan_laws.specs.Scopes.{EachScope, IsNarrow, IsNarrowStep}
use Rattle.lrp_plan_laws.specs.Settled.{EndsWithHead, IsSettled, IsSoundPlan}
use Rattle.lrp_plan_laws.proofs.PlanBuilds.{quantified}
use Rattle.lrp_plan_laws.proofs.WrittenFront.{Any, written_front, written_any}
use Rattle.lrp_plan_laws.proofs.GuardedFront.{over_sorts, guarded_front, guarded_any}
use Rattle.lrp_plan_laws.proofs.RisingLaws.{plan_made, front_rises, last_period}
use Rattle.lrp_plan_laws.proofs.NarrowLaws.{narrow_part, narrow_steps, last_bound}
use Rattle.lrp_plan_laws.proofs.HeadLaws.{last_is}
use Rattle.lrp_plan_laws.proofs.CoreNames.{scope_core}
use Rattle.lrp_plan_laws.proofs.PointLaws.{front_points}
use Rattle.lrp_plan_laws.proofs.SettledLaws.{head_same, head_ends, head_is_last, before_bound, sound}
use Rattle.lrp_plan_laws.proofs.GuardedSound.{guarded_sound}

-- periods and reaches rise along the plan
pub rises_by : (way : Planning) (db : List Relation) (q : Question) → HasElements q.body → HasPeriods db q → (s : ℕ) (step : PlanStep) → step_at (plan_by way db q) s ≡ Some step → IsRising (plan_by way db q) db q s step
rises_by Written db q some low s step e = front_rises db q quantified Any (core_steps db q) (written_any db q some) low s step e
rises_by Guarded db q some low s step e = front_rises db q (over_sorts db q) Any (guarded_steps db q) (guarded_any db q some) low s step e

-- the points of its tests are the body's
pub points_by : (way : Planning) (db : List Relation) (q : Question) → HasElements q.body → (s : ℕ) (step : PlanStep) → step_at (plan_by way db q) s ≡ Some step → AllByRecursion (Contains (points q.body)) (step_points step.kind)
points_by Written db q some s step e = front_points db q quantified Any (core_steps db q) (written_any db q some) s step e
points_by Guarded db q some s step e = front_points db q (over_sorts db q) Any (guarded_steps db q) (guarded_any db q some) s step e

-- the last step has the period of the query
pub last_period_by : (way : Planning) (db : List Relation) (q : Question) → period_at (plan_by way db q) (length (plan_by way db q)) ≡ period db q.body
last_period_by Written db q = last_period db q (core_steps db q)
last_period_by Guarded db q = last_period db q (guarded_steps db q)

-- the plan of a settled query is sound
pub sound_by : (way : Planning) (db : List Relation) (q : Question) → IsSettled db q → IsSoundPlan (plan_by way db q) db q
sound_by Written db q h = sound db q h
sound_by Guarded db q h = guarded_sound db q h

-- each step is made of earlier ones
pub made_by : (way : Planning) (db : List Relation) (q : Question) → HasElements q.body → (s : ℕ) (step : PlanStep) → step_at (plan_by way db q) s ≡ Some step → IsMade (structure db q) (head_step (plan_by way db q) db q) (plan_by way db q) s step
made_by Written db q some s step e =
    subst (λ head. IsMade (structure db q) head (plan_by Written db q) s step) (sym (head_same db q (core_steps db q))) (plan_made db q quantified Any (core_steps db q) (written_any db q some) s step e).made
made_by Guarded db q some s step e =
    subst (λ head. IsMade (structure db q) head (plan_by Guarded db q) s step) (sym (head_same db q (guarded_steps db q))) (plan_made db q (over_sorts db q) Any (guarded_steps db q) (guarded_any db q some) s step e).made

-- the last step is `head`
pub head_by : (way : Planning) (db : List Relation) (q : Question) → EndsWithHead (plan_by way db q) db q
head_by Written db q = head_ends db q (core_steps db q)
head_by Guarded db q = head_ends db q (guarded_steps db q)

-- and no other is
pub only_head_by : (way : Planning) (db : List Relation) (q : Question) → HasElements q.body → (s : ℕ) (step : PlanStep) → step_at (plan_by way db q) s ≡ Some step → (of : ℕ) → step.kind ≡ Extend of → s ≡ length (plan_by way db q)
only_head_by Written db q some s step e = head_is_last db q quantified Any (core_steps db q) (written_any db q some) s step e
only_head_by Guarded db q some s step e = head_is_last db q (over_sorts db q) Any (guarded_steps db q) (guarded_any db q some) s step e

-- its formula holds for exactly the answers
pub last_by : (way : Planning) (db : List Relation) (q : Question) (tuple : List Datum) → (has_named_sort db ≡ false → HasNoNamedSorts db q) → HaveDistinctNames q.head → HasShape q.head tuple → AllByRecursion (Contains (constants db q)) (texts_of tuple)
    → Satisfies (formula_at (plan_by way db q) (length (plan_by way db q))) (structure db q) (assignment q.head tuple) ↔ IsAnswer db q tuple
last_by Written db q tuple plain n k h = last_is db q (core_steps db q) tuple plain n k h
last_by Guarded db q tuple plain n k h = last_is db q (guarded_steps db q) tuple plain n k h

-- the variables of each step are few
pub narrow_by : (way : Planning) (db : List Relation) (q : Question) → HasElements q.body → IsNarrow (head_variables q.head ++ free q.body) → EachScope IsNarrow q.body
    → (s : ℕ) (step : PlanStep) → step_at (plan_by way db q) s ≡ Some step → IsNarrowStep (plan_by way db q) q step
narrow_by Written db q some top each s step e =
    narrow_steps db q quantified (core_steps db q) (written_front db q IsNarrow narrow_part some (scope_core IsNarrow narrow_part db (has_named_sort db) q top each)) top s step e
narrow_by Guarded db q some top each s step e =
    narrow_steps db q (over_sorts db q) (guarded_steps db q) (guarded_front db q IsNarrow narrow_part some (scope_core IsNarrow narrow_part db (has_named_sort db) q top each)) top s step e

-- those of the last step are the head's
pub last_bound_by : (way : Planning) (db : List Relation) (q : Question) → AreAmong (free q.body) (head_variables q.head) → AreAmong (free (formula_at (plan_by way db q) (length (plan_by way db q)))) (head_variables q.head)
last_bound_by Written db q bound = last_bound db q (core_steps db q) bound
last_bound_by Guarded db q bound = last_bound db q (guarded_steps db q) bound

-- and those of the step before it
pub core_bound_by : (way : Planning) (db : List Relation) (q : Question) → AreAmong (free q.body) (head_variables q.head) → HasElements q.body → AreAmong (free (formula_at (plan_by way db q) (length (plan_by way db q) - 1))) (head_variables q.head)
core_bound_by Written db q bound some = before_bound db q quantified Any (core_steps db q) bound (written_any db q some)
core_bound_by Guarded db q bound some = before_bound db q (over_sorts db q) Any (guarded_steps db q) bound (guarded_any db q some)
