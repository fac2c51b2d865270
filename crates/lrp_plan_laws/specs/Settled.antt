-- What a plan relies on in a query over a database, as a well-sorted query gives it, and what then holds of the plan.
use Rattle.std.specs.Prelude.{◌≡◌, ◌↔◌, ℕ, ◌-◌, true, false, List, ◌++◌, length, Some, Contains, MatchOption}
use Rattle.std.specs.List.{AllByRecursion}
use Rattle.lrp_model.specs.Texts.{Text, Identifier}
use Rattle.lrp_model.specs.Sorts.{is_data}
use Rattle.lrp_model.specs.Rows.{Datum, text, texts_of}
use Rattle.lrp_model.specs.Formulas.{Question}
use Rattle.lrp_model.specs.Variables.{Variable, data_variable, free, head_variables}
use Rattle.lrp_model.specs.Satisfaction.{Assignment, ForSome, Satisfies, IsAnswer, structure, assignment, with_value, HasShape, HaveDistinctNames}
use Rattle.lrp_model.specs.Domains.{database_texts, all_texts, domain, constants}
use Rattle.lrp_model.specs.Core.{guarded, has_named_sort, HasElements}
use Rattle.lrp_model.specs.Steps.{PlanStep, Steps, step_at, formula_at}
use Rattle.lrp_model.specs.Plans.{HasNoNamedSorts}
use Rattle.lrp_model.specs.Periods.{period}
use Rattle.lrp_model.specs.TestPoints.{points}
use Rattle.lrp_plan_laws.specs.Points.{step_points}
use Rattle.lrp_model.specs.declared.relations.Sort.{Sort}
use Rattle.lrp_model.specs.declared.relations.Relation.{Relation}
use Rattle.lrp_model.specs.declared.formulas.Term.{Term}
use Rattle.lrp_model.specs.declared.plans.StepKind.TheVariants.{Scan, DropData, Extend}
use Rattle.lrp_plan_laws.specs.Atoms.{atoms, FitsAtom, IsKnownScan}
use Rattle.lrp_plan_laws.specs.Made.{AreAmong, IsMade, head_step}
use Rattle.lrp_plan_laws.specs.Rising.{HasPeriods, IsRising, period_at}
use Rattle.lrp_plan_laws.specs.Scopes.{EachScope, IsNarrow, IsNarrowStep}
use Rattle.lrp_plan_laws.specs.Guards.{BindsPlainly}

-- each text of the database stands in a column of a data sort, as in every database that is read
abbrev pub HasSortedTexts : List Relation → Type 0
HasSortedTexts db = AllByRecursion (λ entry. is_data entry.0 ≡ true) (database_texts db)

-- each `and` and `or` has an element, and each period is at least 1; the head's names differ, and the body's variables are the head's; few variables occur together; each atom fits the database; each text is of a sort of texts, and where no sort is named, all are of one
pub record IsSettled (db : List Relation) (q : Question) : Type 0 where
  pub elements : HasElements q.body
  pub periods : HasPeriods db q
  pub names : HaveDistinctNames q.head
  pub bound : AreAmong (free q.body) (head_variables q.head)
  pub whole : IsNarrow (head_variables q.head ++ free q.body)
  pub parts : EachScope IsNarrow q.body
  pub atoms : AllByRecursion (FitsAtom db) (atoms q.body)
  pub texts : AllByRecursion (λ entry. is_data entry.0 ≡ true) (all_texts db q)
  pub plain : has_named_sort db ≡ false → HasNoNamedSorts db q × BindsPlainly q.body

-- an assignment satisfies the formula of a drop of texts exactly where some constant completes it in what the step reads
abbrev pub IsTextDrop : Steps → List Relation → Question → PlanStep → Type 0
IsTextDrop steps db q step =
    (of : ℕ) (v : Identifier) → step.kind ≡ DropData of v → (env : Assignment)
    → Satisfies step.formula (structure db q) env ↔ ForSome (λ t. Contains (constants db q) t × Satisfies (formula_at steps of) (structure db q) (with_value v (text t) env))

-- the assignment gives each variable for texts among these one of the texts
abbrev pub HasConstantTexts : List Text → List Variable → Assignment → Type 0
HasConstantTexts texts vs env = (v : Identifier) → Contains vs (data_variable v) → Contains texts (env.texts v)

-- step s is made of earlier ones, periods and reaches rise, its variables are few, its drop is one of constants, its scan is of an atom that fits, and only the last step is `head`
pub record IsSoundStep (steps : Steps) (db : List Relation) (q : Question) (s : ℕ) (step : PlanStep) : Type 0 where
  pub made : IsMade (structure db q) (head_step steps db q) steps s step
  pub rises : IsRising steps db q s step
  pub narrow : IsNarrowStep steps q step
  pub drops : IsTextDrop steps db q step
  pub scans : (name : Identifier) (terms : List Term) → step.kind ≡ Scan name terms → IsKnownScan db q (record { name = name; terms = terms })
  pub points : AllByRecursion (Contains (points q.body)) (step_points step.kind)
  pub head : (of : ℕ) → step.kind ≡ Extend of → s ≡ length steps

-- the last step is `head`, with the body as its formula
abbrev pub EndsWithHead : Steps → List Relation → Question → Type 0
EndsWithHead steps db q =
    MatchOption (step_at steps (length steps)) ⊥ (λ step. (step.kind ≡ Extend (length steps - 1)) × (step.formula ≡ guarded (has_named_sort db) q.head q.body))

-- each step is sound, the texts of the database and of each sort are constants, the last two steps have variables of the head alone and say the same where its texts are constants, and the last one is `head`, has the query's period, and its formula holds for exactly the answers
pub record IsSoundPlan (steps : Steps) (db : List Relation) (q : Question) : Type 0 where
  pub each : (s : ℕ) (step : PlanStep) → step_at steps s ≡ Some step → IsSoundStep steps db q s step
  pub texts : AllByRecursion (λ entry. Contains (constants db q) entry.1) (database_texts db)
  pub sorts : (s : Sort) (t : Text) → Contains (domain db q s) t → Contains (constants db q) t
  pub core : AreAmong (free (formula_at steps (length steps - 1))) (head_variables q.head)
  pub last : AreAmong (free (formula_at steps (length steps))) (head_variables q.head)
  pub head : EndsWithHead steps db q
  pub says : (env : Assignment) → HasConstantTexts (constants db q) (head_variables q.head) env → Satisfies (formula_at steps (length steps - 1)) (structure db q) env ↔ Satisfies (formula_at steps (length steps)) (structure db q) env
  pub period : period_at steps (length steps) ≡ period db q.body
  pub answers : (tuple : List Datum) → HasShape q.head tuple → AllByRecursion (Contains (constants db q)) (texts_of tuple) → Satisfies (formula_at steps (length steps)) (structure db q) (assignment q.head tuple) ↔ IsAnswer db q tuple
