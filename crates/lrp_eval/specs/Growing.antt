-- Unions that take the left table's memory.
use Rattle.std.specs.Prelude.{◌≡◌, ◌≢◌, ◌⊎◌, ◌-◌, ℕ, ℤ, suc, List, length, slice_get, slice_set, Result}
use Rattle.lrp_model.specs.Texts.{Text}
use Rattle.lrp_model.specs.Formulas.{Question}
use Rattle.lrp_model.specs.Steps.{Steps}
use Rattle.lrp_model.specs.declared.relations.Relation.{Relation}
use Rattle.lrp_model.specs.declared.plans.Plan.{Plan}
use Rattle.lrp_model.specs.declared.plans.Step.{Step}
use Rattle.lrp_model.specs.declared.plans.StepKind.TheVariants.{Union}
use Rattle.lrp_tables.specs.declared.table.StepFault.{StepFault}
use Rattle.lrp_tables.specs.declared.table.Table.{Table}
use Rattle.lrp_eval.specs.Freeing.{IsDone}
use Rattle.lrp_eval.specs.Planned.{IsPlanOf}
use Rattle.lrp_eval.specs.Running.{AreRun, IsNext, IsRunResult}
use Rattle.lrp_eval.specs.declared.growing.Growth.{Growth}

-- the step after this number of others is a union of two steps, of which no later one reads the left
pub record IsGrowth (step : Step) (readers : List ℕ) (count : ℕ) (growth : Growth) : Type 0 where
  pub kind : step.kind ≡ Union growth.left growth.right
  pub apart : growth.left ≢ growth.right
  pub done : IsDone readers (suc count) (growth.left - 1)

-- another table stands in the place of that of a step, by its number
abbrev pub IsReplacedAt : ℕ → List Table → List Table → Type 0
IsReplacedAt number old new = (table : Table) × (new ≡ slice_set old (number - 1) table)

-- as many tables, each as it was, or read by no step after the next one
pub record AreLeftOrTaken (readers : List ℕ) (old new : List Table) : Type 0 where
  pub count : length new ≡ length old
  pub each : (i : ℕ) → (slice_get new i ≡ slice_get old i) ⊎ IsDone readers (suc (length old)) i

-- some query has a union of these two steps next
pub record IsSomeUnion (cap : ℕ) (domain : List Text) (tables : List Table) (growth : Growth) (period : ℤ) : Type 0 where
  pub planned : Steps
  pub database : List Relation
  pub query : Question
  pub is : IsNext planned database query cap domain tables (Union growth.left growth.right) period
  pub apart : growth.left ≢ growth.right

-- in each such query the result is that of running it
abbrev pub IsUnionRun : ℕ → List Text → List Table → Growth → ℤ → Result Table StepFault → Type 0
IsUnionRun cap domain tables growth period result =
    (planned : Steps) (db : List Relation) (q : Question) → IsNext planned db q cap domain tables (Union growth.left growth.right) period → IsRunResult planned db q cap (suc (length tables)) result

-- in each query that has the plan, whose first steps have these tables, the result is that of running the next step
abbrev pub IsNextRun : List Relation → Plan → ℕ → List Table → Result Table StepFault → Type 0
IsNextRun db p cap tables result =
    (planned : Steps) (q : Question) → IsPlanOf planned db q p → AreRun planned db q cap tables → IsRunResult planned db q cap (suc (length tables)) result
