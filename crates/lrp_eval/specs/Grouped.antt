-- Groups of steps whose tables are held in parts.
use Rattle.std.specs.Prelude.{◌≡◌, ◌⊎◌, ◌↔◌, ◌+◌, ◌-◌, ◌^◌, ◌<◌, ◌≤◌, ℕ, suc, ℤ, pos, nat_abs, List, [], ◌∷◌, length, Some, slice_get, Result, Ok}
use Rattle.lrp_model.specs.Texts.{Ascends, Identifier, Text}
use Rattle.lrp_model.specs.Formulas.{Question}
use Rattle.lrp_model.specs.Variables.{free}
use Rattle.lrp_model.specs.Satisfaction.{Assignment, Satisfies, structure}
use Rattle.lrp_model.specs.Domains.{constants}
use Rattle.lrp_model.specs.Caps.{ManyAt}
use Rattle.lrp_model.specs.Steps.{PlanStep, Steps, formula_at, step_at}
use Rattle.lrp_model.specs.declared.relations.Relation.{Relation}
use Rattle.lrp_model.specs.declared.plans.Plan.{Plan}
use Rattle.lrp_model.specs.declared.plans.Step.{Step}
use Rattle.lrp_model.specs.declared.plans.StepKind.TheVariants.{DropTime, Extend}
use Rattle.lrp_store.specs.Stores.{HasReach, IsStore}
use Rattle.lrp_tables.specs.declared.table.Table.{Table}
use Rattle.lrp_tables.specs.declared.table.StepFault.{StepFault}
use Rattle.lrp_tables.specs.Caps.{InhabitsMoreThan}
use Rattle.lrp_tables.specs.Tables.{IsTableOf, named_variables}
use Rattle.lrp_periods.specs.Operations.{AreOperand}
use Rattle.lrp_periods.specs.Parts.{AreParts, HasSome, IsSmallPeriod, part_texts, part_times}
use Rattle.lrp_plan_laws.specs.Rising.{period_at}
use Rattle.lrp_eval.specs.Planned.{IsPlanOf}
use Rattle.lrp_eval.specs.Running.{AreRun, AreRunBySome, HasConstants, SameVariables}
use Rattle.lrp_eval.specs.Together.{AreRunTogether}
use Rattle.lrp_eval.specs.declared.following.Together.{Together}
use Rattle.lrp_eval.specs.declared.groups.Group.{Group}

-- ---- steps in parts

-- step s isn't `head`, and the parts together have just the assignments that satisfy its formula, over its variables
pub record IsStepInParts (planned : Steps) (db : List Relation) (q : Question) (s : ℕ) (parts : List Table) : Type 0 where
  pub parts_are : AreParts (constants db q) (pos (period_at planned s)) parts
  pub variables : SameVariables (named_variables (part_times parts) (part_texts parts)) (free (formula_at planned s))
  pub means : (env : Assignment) → HasConstants (constants db q) (named_variables (part_times parts) (part_texts parts)) env → HasSome (constants db q) parts env ↔ Satisfies (formula_at planned s) (structure db q) env
  pub other : (step : PlanStep) (of : ℕ) → step_at planned s ≡ Some step → step.kind ≡ Extend of → ⊥

-- the steps after the first ones, by their number, have these parts, and none has more than cap cells
pub record AreStepsInParts (planned : Steps) (db : List Relation) (q : Question) (cap count : ℕ) (made : List (List Table)) : Type 0 where
  pub each : (j : ℕ) (parts : List Table) → slice_get made j ≡ Some parts → IsStepInParts planned db q (suc (count + j)) parts
  pub few : (s : ℕ) → count < s → s ≤ count + length made → ManyAt planned db q cap s → ⊥

-- ---- one table or the other

-- the parts' assignments inhabit no more than cap cells of the period
abbrev pub HaveFew : ℕ → List Text → ℤ → List Table → Type 0
HaveFew cap domain period parts = InhabitsMoreThan cap domain (nat_abs period) (part_times parts) (part_texts parts) (HasSome domain parts) → ⊥

-- parts of a period whose assignments inhabit no more than cap cells of it, and which have those of other parts
pub record AreFewParts (cap : ℕ) (domain : List Text) (period : ℤ) (old new : List Table) : Type 0 where
  pub parts_are : AreParts domain period new
  pub times_are : part_times new ≡ part_times old
  pub texts_are : part_texts new ≡ part_texts old
  pub same : (env : Assignment) → HasSome domain new env ↔ HasSome domain old env
  pub few : HaveFew cap domain period old

-- a table of the parts' assignments in cells of this period, which are no more than cap
pub record IsWholeTable (cap : ℕ) (domain : List Text) (period : ℤ) (parts : List Table) (made : Table) : Type 0 where
  pub valid : IsStore made.store
  pub is : IsTableOf domain (part_times parts) (part_texts parts) (nat_abs period) (HasSome domain parts) made
  pub few : HaveFew cap domain period parts

-- parts of a small period, and a domain in order
pub record CanBeWhole (domain : List Text) (period : ℤ) (parts : List Table) : Type 0 where
  pub ascends : Ascends domain
  pub operand : AreOperand domain period parts

-- the table is the one part, with small bounds
pub record IsOnePart (table : Table) (parts : List Table) : Type 0 where
  pub alone : parts ≡ table ∷ []
  pub valid : IsStore table.store
  pub reach : HasReach table.store (2 ^ 59)

-- the table of a result is
pub record IsPartAlone (result : Result Table StepFault) (parts : List Table) : Type 0 where
  pub table : Table
  pub is : result ≡ Ok table
  pub one : IsOnePart table parts

-- ---- what is said of all queries that have the plan

-- some query has the plan, and the tables are those of its first steps
pub record CanRunGroup (cap : ℕ) (domain : List Text) (g : Group) : Type 0 where
  pub domain_is : domain ≡ g.plan.now.domain
  pub run : AreRunBySome g.database.now g.plan.now cap g.tables.now

-- in each such query the parts are those of step s
abbrev pub IsGroupHeld : ℕ → Group → ℕ → List Table → Type 0
IsGroupHeld cap g s parts = (planned : Steps) (q : Question) → IsPlanOf planned g.database.now q g.plan.now → AreRun planned g.database.now q cap g.tables.now → IsStepInParts planned g.database.now q s parts

-- these are those of the steps after the tables
abbrev pub AreHeld : ℕ → Group → List (List Table) → Type 0
AreHeld cap g made =
    (planned : Steps) (q : Question) → IsPlanOf planned g.database.now q g.plan.now → AreRun planned g.database.now q cap g.tables.now → AreStepsInParts planned g.database.now q cap (length g.tables.now) made

-- the number of the step after these
abbrev pub next_step_number : Group → List (List Table) → ℕ
next_step_number g made = suc (length g.tables.now + length made)

-- the step of the plan at a place, counted from 0, which has a small period
pub record IsSmallStep (g : Group) (place : ℕ) (step : Step) : Type 0 where
  pub at : slice_get g.plan.now.steps place ≡ Some step
  pub small : IsSmallPeriod step.period

-- the step after these
abbrev pub IsNextStep : Group → List (List Table) → Step → Type 0
IsNextStep g made step = IsSmallStep g (length g.tables.now + length made) step

-- in each query that has the plan, the step after these has no more than cap cells
abbrev pub IsNextFew : ℕ → Group → List (List Table) → Type 0
IsNextFew cap g made = (planned : Steps) (q : Question) → IsPlanOf planned g.database.now q g.plan.now → AreRun planned g.database.now q cap g.tables.now → ManyAt planned g.database.now q cap (next_step_number g made) → ⊥

-- the step drops a time of the last one of these
pub record IsLastDropped (g : Group) (made : List (List Table)) (step : Step) : Type 0 where
  pub name : Identifier
  pub some : 0 < length made
  pub kind : step.kind ≡ DropTime (length g.tables.now + length made) name

-- the parts of a step by its number: those that the group has made, or its table alone, which has small bounds
pub record IsTableBefore (g : Group) (number : ℕ) (parts : List Table) : Type 0 where
  pub table : Table
  pub at : slice_get g.tables.now (number - 1) ≡ Some table
  pub valid : IsStore table.store
  pub reach : HasReach table.store (2 ^ 59)
  pub alone : parts ≡ table ∷ []

pub record IsMadeInGroup (g : Group) (made : List (List Table)) (number : ℕ) (parts : List Table) : Type 0 where
  pub after : length g.tables.now < number
  pub at : slice_get made (number - 1 - length g.tables.now) ≡ Some parts

abbrev pub ArePartsAt : Group → List (List Table) → ℕ → List Table → Type 0
ArePartsAt g made number parts = IsTableBefore g number parts ⊎ IsMadeInGroup g made number parts

-- the steps after the tables are run together, and are steps of the plan
pub record IsGroupRun (cap : ℕ) (g : Group) (made : Together) : Type 0 where
  pub run : (planned : Steps) (q : Question) → IsPlanOf planned g.database.now q g.plan.now → AreRun planned g.database.now q cap g.tables.now → AreRunTogether planned g.database.now q cap g.readers.now g.tables.now made.between made.table
  pub inside : length g.tables.now + made.between < length g.plan.now.steps

-- in each query that has the plan, whose first steps have these tables, the next steps are run together
abbrev pub AreStepsGrouped : List Relation → Plan → ℕ → List ℕ → List Table → Together → Type 0
AreStepsGrouped db p cap readers tables made = (planned : Steps) (q : Question) → IsPlanOf planned db q p → AreRun planned db q cap tables → AreRunTogether planned db q cap readers tables made.between made.table
