-- What the plan of a query has beyond its steps: the points of its tests have periods, and a settled query's plan is sound.
use Rattle.std.proofs.Common.{◌≡◌, ◌≤◌, ◌≤ℤ◌, ℕ, suc, pos, Bool, List, [], ◌∷◌, ◌++◌, Some, Contains, Result, Ok, Err, slice_get, flat_map, nat_abs, sym, refl, ap, subst, ◌∙◌}
use Rattle.std.specs.List.{AllZip, AllByRecursion}
use Rattle.std.specs.Result.{IfOk, IfErr}
use Rattle.lrp_model.specs.Formulas.{Form, Question}
use Rattle.lrp_model.specs.Core.{core_form, has_named_sort, HasElements}
use Rattle.lrp_model.specs.Domains.{database_texts, all_texts}
use Rattle.lrp_model.specs.Satisfaction.{structure}
use Rattle.lrp_model.specs.Steps.{PlanStep, Steps}
use Rattle.lrp_model.specs.Plans.{plan, IsStep, IsPlan, IsWithinLimits}
use Rattle.lrp_model.specs.declared.relations.Relation.{Relation}
use Rattle.lrp_model.specs.declared.relations.RowPoint.{RowPoint}
use Rattle.lrp_model.specs.declared.formulas.Test.{Test}
use Rattle.lrp_model.specs.declared.formulas.Test.TheVariants.{Compare, Member, Equal}
use Rattle.lrp_model.specs.declared.plans.Plan.{Plan}
use Rattle.lrp_model.specs.declared.plans.Step.{Step}
use Rattle.lrp_model.specs.declared.plans.StepKind.{StepKind}
use Rattle.lrp_model.specs.declared.plans.StepKind.TheVariants.{Scan, Leaf, Sort as SortStep, Join, Select, Union, Minus, Complement, DropTime, DropData, Extend}
use Rattle.lrp_model.proofs.Logic.{all_append}
use Rattle.lrp_model.specs.TestPoints.{test_points, points}
use Rattle.lrp_plan_laws.specs.Points.{step_points}
use Rattle.lrp_plan_laws.specs.Rising.{HasPeriods, database_periods}
use Rattle.lrp_plan_laws.proofs.Members.{all_from, all_map}
use Rattle.lrp_plan_laws.proofs.PointLaws.{points_known}
use Rattle.lrp_plan_laws.proofs.SourcePeriods.{named_from}
use Rattle.lrp_plan_laws.specs.Settled.{IsSettled, IsSoundPlan}
use Rattle.lrp_plan_laws.proofs.SettledLaws.{sound}
use Rattle.lrp_plan.specs.declared.planning.PlanFault.{PlanFault}
use Rattle.lrp_plan.specs.declared.sources.Sources.{Sources}
use Rattle.lrp_plan.specs.Planning.{IsPastLimits, AreGathered, IsOutcome}
use Rattle.lrp_plan.specs.Sources.{AreSources}
use Rattle.lrp_print.specs.Writable.{TestHasPeriod, KindHasPeriods, StepHasPeriods as IsWritable}
use Rattle.lrp_plan.proofs.KeptPeriods.{low}

-- the period of a point is at least 1
abbrev Low : RowPoint → Type 0
Low at = pos 1 ≤ℤ at.period

-- the periods of a query, from those of the rows and of its points
pub query_low : (db : List Relation) (q : Question) → AllByRecursion (λ k. 1 ≤ k) (database_periods db) → AllByRecursion Low (points q.body) → HasPeriods db q
query_low db q rows ps = named_from (λ k. 1 ≤ k) q.body db rows (all_map Low (λ at. 1 ≤ nat_abs at.period) (points q.body) (λ at h. low at.period h) ps)

-- a test whose points have periods
test_low : (t : Test) → AllByRecursion Low (test_points t) → TestHasPeriod t
test_low (Compare left op right) h = tt
test_low (Member term point) h = h.0
test_low (Equal left right) h = tt

-- and tests
tests_low : (ts : List Test) → AllByRecursion Low (flat_map test_points ts) → AllByRecursion TestHasPeriod ts
tests_low [] h = tt
tests_low (t ∷ ts) h = let two = (all_append Low (test_points t) (flat_map test_points ts)).0 h in (test_low t two.0, tests_low ts two.1)

-- and a step
kind_low : (kind : StepKind) → AllByRecursion Low (step_points kind) → KindHasPeriods kind
kind_low (Scan name terms) h = tt
kind_low (Leaf t) h = test_low t h
kind_low (SortStep v s texts) h = tt
kind_low (Join left right tests) h = tests_low tests h
kind_low (Select of t) h = test_low t h
kind_low (Union left right) h = tt
kind_low (Minus left right) h = tt
kind_low (Complement of) h = tt
kind_low (DropTime of v) h = tt
kind_low (DropData of v) h = tt
kind_low (Extend of) h = tt

-- and steps that are those of a plan
steps_low : (steps : List Step) (planned : Steps) → AllZip IsStep steps planned → ((i : ℕ) (p : PlanStep) → slice_get planned i ≡ Some p → AllByRecursion Low (step_points p.kind)) → AllByRecursion IsWritable steps
steps_low [] [] h each = tt
steps_low [] (p ∷ ps) h each = tt
steps_low (s ∷ ss) [] h each = absurd h
steps_low (s ∷ ss) (p ∷ ps) h each = (subst KindHasPeriods (sym h.0.kind) (kind_low p.kind (each 0 p refl)), steps_low ss ps h.1 (λ i q e. each (suc i) q e))

-- a plan of steps whose points are the query's can be written
pub plan_writable : (planned : Steps) (db : List Relation) (q : Question) (p : Plan) → ((i : ℕ) (step : PlanStep) → slice_get planned i ≡ Some step → AllByRecursion (Contains (points q.body)) (step_points step.kind)) → AllByRecursion Low (points q.body) → IsPlan p planned db q → AllByRecursion IsWritable p.steps
plan_writable planned db q p known ps is = steps_low p.steps planned is.steps (λ i s e. all_from Low (points q.body) (step_points s.kind) (known i s e) ps)

-- ---- what an outcome is

-- what is read of a database and a query
pub gathered_is : (db : List Relation) (q : Question) (named : Bool) (sources : Sources) (f : Form) → HasElements q.body → AllByRecursion Low (points q.body) → AllByRecursion (λ k. 1 ≤ k) (database_periods db) → named ≡ has_named_sort db → f ≡ core_form named q
    → AreSources (structure db q) sources → database_texts sources.database.now ++ sources.texts.items ≡ all_texts db q → AreGathered db q sources f
gathered_is db q named sources f some ps rows is core gathered texts = record { elements = some; periods = query_low db q rows ps; core = core ∙ ap (λ b. core_form b q) is; gathered = gathered; texts = texts }

-- the plan, where there is one
pub outcome_ok : (steps : Steps) (db : List Relation) (q : Question) (r : Result Plan PlanFault) → IsOutcome steps db q r → IfOk r (λ p. IsPlan p steps db q)
outcome_ok steps db q (Ok p) h = h.0
outcome_ok steps db q (Err e) h = tt

-- within the limits
pub outcome_limits : (steps : Steps) (db : List Relation) (q : Question) (r : Result Plan PlanFault) → IsOutcome steps db q r → IfOk r (λ p. IsWithinLimits steps db q)
outcome_limits steps db q (Ok p) h = h.1
outcome_limits steps db q (Err e) h = tt

-- which can be written
pub outcome_writable : (planned : Steps) (db : List Relation) (q : Question) (r : Result Plan PlanFault) → ((i : ℕ) (step : PlanStep) → slice_get planned i ≡ Some step → AllByRecursion (Contains (points q.body)) (step_points step.kind)) → AllByRecursion Low (points q.body) → IsOutcome planned db q r → IfOk r (λ p. AllByRecursion IsWritable p.steps)
outcome_writable planned db q (Ok p) known ps h = plan_writable planned db q p known ps h.0
outcome_writable planned db q (Err e) known ps h = tt

-- the points of the plan as it is written
pub written_points : (db : List Relation) (q : Question) → HasElements q.body → (i : ℕ) (step : PlanStep) → slice_get (plan db q) i ≡ Some step → AllByRecursion (Contains (points q.body)) (step_points step.kind)
written_points db q some i step e = points_known db q some (suc i) step e

-- and is sound, where the query is settled
pub outcome_sound : (db : List Relation) (q : Question) (r : Result Plan PlanFault) → IfOk r (λ p. IsSettled db q → IsSoundPlan (plan db q) db q)
outcome_sound db q (Ok p) = λ h. sound db q h
outcome_sound db q (Err e) = tt

-- or why there is none
pub outcome_fault : (steps : Steps) (db : List Relation) (q : Question) (r : Result Plan PlanFault) → IsOutcome steps db q r → IfErr r (λ e. IsPastLimits e steps db q)
outcome_fault steps db q (Ok p) h = tt
outcome_fault steps db q (Err e) h = h
