-- What the tables of the steps of a plan stand for.
use Rattle.std.specs.Prelude.{◌≡◌, ◌≢◌, ◌↔◌, ◌<◌, ◌≤◌, ℕ, suc, ◌-◌, ℤ, pos, List, [], ◌∷◌, ◌++◌, length, AllPairs, Some, Contains, slice_get, unwrap_or, option_map, Result, Err, IfOk}
use Rattle.lrp_model.specs.Texts.{Text, Identifier}
use Rattle.lrp_model.specs.Formulas.{Question}
use Rattle.lrp_model.specs.Variables.{Variable, data_variable}
use Rattle.lrp_model.specs.Satisfaction.{Assignment, Satisfies, structure}
use Rattle.lrp_model.specs.Domains.{constants}
use Rattle.lrp_model.specs.Caps.{IsFirstMany, ManyAt, step_variables}
use Rattle.lrp_model.specs.Steps.{PlanStep, Steps, step_at, formula_at, reach_at}
use Rattle.lrp_model.specs.declared.relations.Sort.{Sort}
use Rattle.lrp_model.specs.declared.relations.Sort.TheVariants.{Data}
use Rattle.lrp_model.specs.declared.relations.Column.{Column}
use Rattle.lrp_model.specs.declared.relations.Value.TheVariants.{Const}
use Rattle.lrp_model.specs.declared.relations.Row.{Row}
use Rattle.lrp_model.specs.declared.relations.Relation.{Relation}
use Rattle.lrp_model.specs.declared.plans.Plan.{Plan}
use Rattle.lrp_model.specs.declared.plans.StepKind.{StepKind}
use Rattle.lrp_model.specs.declared.plans.StepKind.TheVariants.{Extend, Sort as SortStep}
use Rattle.lrp_store.specs.Stores.{IsStore, HasReach}
use Rattle.lrp_store.specs.Tables.{AreNumbered}
use Rattle.lrp_tables.specs.declared.table.StepFault.{StepFault}
use Rattle.lrp_tables.specs.declared.table.StepFault.TheVariants.{TooManyCells}
use Rattle.lrp_tables.specs.declared.table.Table.{Table}
use Rattle.lrp_tables.specs.Columns.{head_times, head_texts}
use Rattle.lrp_tables.specs.Tables.{HasAssignment, named_variables}
use Rattle.lrp_plan_laws.specs.Made.{operands}
use Rattle.lrp_plan_laws.specs.Rising.{period_at}
use Rattle.lrp_eval.specs.Planned.{IsPlanOf}
use Rattle.lrp_eval.specs.declared.evaluation.EvalFault.{EvalFault}
use Rattle.lrp_eval.specs.declared.evaluation.EvalFault.TheVariants.{TooManyCells as TooManyCellsAt}

-- the assignment gives each data variable of the list a text of the domain
abbrev pub HasConstants : List Text → List Variable → Assignment → Type 0
HasConstants domain vs env = (v : Identifier) → Contains vs (data_variable v) → Contains domain (env.texts v)

-- the lists have the same variables
abbrev pub SameVariables : List Variable → List Variable → Type 0
SameVariables vs ws = (v : Variable) → Contains vs v ↔ Contains ws v

-- the variables of the columns of a table
abbrev pub variables_of : Table → List Variable
variables_of table = named_variables table.vars.times table.vars.texts

-- the variables of the cells of step s; only steps that are there are asked for
abbrev pub variables_at : Steps → Question → ℕ → List Variable
variables_at planned q s = unwrap_or (option_map (step_variables q.head) (step_at planned s)) []

-- at the step `head` the columns are the head's, in its order
abbrev pub HasHeadColumns : Steps → Question → ℕ → Table → Type 0
HasHeadColumns planned q s table =
    (step : PlanStep) (of : ℕ) → step_at planned s ≡ Some step → step.kind ≡ Extend of → (table.vars.times ≡ head_times q.head) × (table.vars.texts ≡ head_texts q.head)

-- the table has just the assignments that satisfy the formula of step s, over its variables; it has the step's period, and no more than its reach and cap cells
pub record IsStepTable (planned : Steps) (db : List Relation) (q : Question) (cap s : ℕ) (table : Table) : Type 0 where
  pub variables : SameVariables (variables_of table) (variables_at planned q s)
  pub means : (env : Assignment) → HasConstants (constants db q) (variables_of table) env → HasAssignment table (constants db q) env ↔ Satisfies (formula_at planned s) (structure db q) env
  pub numbered : AreNumbered (constants db q) table.store
  pub period : table.store.period ≡ period_at planned s
  pub reach : HasReach table.store (reach_at planned s)
  pub few : ManyAt planned db q cap s → ⊥
  pub order : HasHeadColumns planned q s table

-- the table of a step by its number, from 1
pub record IsOperand (tables : List Table) (number : ℕ) (table : Table) : Type 0 where
  pub at : slice_get tables (number - 1) ≡ Some table
  pub valid : IsStore table.store
  pub times_named : length table.vars.times ≡ table.store.shape.times
  pub texts_named : length table.vars.texts ≡ table.store.shape.texts
  pub differ : AllPairs ◌≢◌ (table.vars.times ++ table.vars.texts)

-- a step after the first `count` reads step s
pub record IsReadAfter (steps : Steps) (count s : ℕ) : Type 0 where
  pub number : ℕ
  pub step : PlanStep
  pub after : count < number
  pub at : step_at steps number ≡ Some step
  pub reads : Contains (operands step.kind) s

-- of the first steps, the last one and each that a later step reads have their tables, and none has more than cap cells
pub record AreRun (planned : Steps) (db : List Relation) (q : Question) (cap : ℕ) (tables : List Table) : Type 0 where
  pub read : (i : ℕ) (table : Table) → slice_get tables i ≡ Some table → IsReadAfter planned (length tables) (suc i) → IsStepTable planned db q cap (suc i) table
  pub last : (i : ℕ) (table : Table) → slice_get tables i ≡ Some table → suc i ≡ length tables → IsStepTable planned db q cap (suc i) table
  pub few : (s : ℕ) → s ≤ length tables → ManyAt planned db q cap s → ⊥

-- some query has the plan, and these are the tables of its first steps
abbrev pub AreRunBySome : List Relation → Plan → ℕ → List Table → Type 0
AreRunBySome db p cap tables = (planned : Steps) × (q : Question) × IsPlanOf planned db q p × AreRun planned db q cap tables

-- in each query that has the plan the new ones are too, where the old ones are
abbrev pub AreRunThen : List Relation → Plan → ℕ → List Table → List Table → Type 0
AreRunThen db p cap old new = (planned : Steps) (q : Question) → IsPlanOf planned db q p → AreRun planned db q cap old → AreRun planned db q cap new

-- the fault names the first step with too many cells, in each query that has the plan and whose first steps have these tables
abbrev pub NamesFirstMany : List Relation → Plan → ℕ → List Table → EvalFault → Type 0
NamesFirstMany db p cap tables fault = (step : ℕ) → fault ≡ TooManyCellsAt step → (planned : Steps) (q : Question) → IsPlanOf planned db q p → AreRun planned db q cap tables → IsFirstMany planned db q cap step

-- the tables that a step of this kind reads are those of their steps
abbrev pub AreReadBy : Steps → List Relation → Question → ℕ → List Table → StepKind → Type 0
AreReadBy planned db q cap tables kind = (i : ℕ) (table : Table) → slice_get tables i ≡ Some table → Contains (operands kind) (suc i) → IsStepTable planned db q cap (suc i) table

-- the step after these tables has this kind and period
pub record IsNext (planned : Steps) (db : List Relation) (q : Question) (cap : ℕ) (domain : List Text) (tables : List Table) (kind : StepKind) (period : ℤ) : Type 0 where
  pub plan : (p : Plan) × IsPlanOf planned db q p
  pub step : PlanStep
  pub at : step_at planned (suc (length tables)) ≡ Some step
  pub kind_is : kind ≡ step.kind
  pub period_is : period ≡ pos step.period
  pub domain_is : domain ≡ constants db q
  pub before : AreReadBy planned db q cap tables kind

-- the result of running step s: its table, or `TooManyCells` where it has more than cap cells
pub record IsRunResult (planned : Steps) (db : List Relation) (q : Question) (cap s : ℕ) (result : Result Table StepFault) : Type 0 where
  pub table : IfOk result (IsStepTable planned db q cap s)
  pub many : result ≡ Err TooManyCells → ManyAt planned db q cap s

-- the step is the step `head` of the last table, whose columns are these, in order
pub record StandsAtHead (columns : List Column) (tables : List Table) (kind : StepKind) : Type 0 where
  pub kind_is : kind ≡ Extend (length tables)
  pub table : Table
  pub last : IsOperand tables (length tables) table
  pub times : table.vars.times ≡ head_times columns
  pub texts : table.vars.texts ≡ head_texts columns

-- ---- the texts of a sort as a relation

-- the row of one text
abbrev pub text_row : Text → Row
text_row t = record { values = Const t ∷ []; bounds = [] }

-- a column of a data sort
abbrev pub text_column : Identifier → Column
text_column name = record { name = name; sort = Data }

-- some database and query have the step of a sort next
pub record IsSomeSort (cap : ℕ) (domain : List Text) (name : Identifier) (texts : List Text) : Type 0 where
  pub planned : Steps
  pub database : List Relation
  pub query : Question
  pub tables : List Table
  pub sort : Sort
  pub period : ℤ
  pub is : IsNext planned database query cap domain tables (SortStep name sort texts) period

-- the result is that of running the step, in each database and query that has it next
abbrev pub IsSortResult : ℕ → List Text → Identifier → List Text → Result Table StepFault → Type 0
IsSortResult cap domain name texts result =
    (planned : Steps) (db : List Relation) (q : Question) (tables : List Table) (sort : Sort) (period : ℤ) → IsNext planned db q cap domain tables (SortStep name sort texts) period → IsRunResult planned db q cap (suc (length tables)) result

-- ---- the whole plan

-- the table is that of the last step, and no step has more than cap cells
pub record IsLastRun (planned : Steps) (db : List Relation) (q : Question) (cap : ℕ) (table : Table) : Type 0 where
  pub run : IsStepTable planned db q cap (length planned) table
  pub few : (s : ℕ) → ManyAt planned db q cap s → ⊥
