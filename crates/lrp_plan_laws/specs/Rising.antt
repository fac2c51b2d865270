-- Periods and reaches along a plan.
use Rattle.std.specs.Prelude.{◌≡◌, ℕ, ◌≤◌, List, [], flat_map, nat_abs, unwrap_or, option_map}
use Rattle.std.specs.List.{AllByRecursion}
use Rattle.lrp_model.specs.Rows.{rows_of}
use Rattle.lrp_model.specs.Formulas.{Question}
use Rattle.lrp_theory.specs.Divides.{IsMultiple}
use Rattle.lrp_model.specs.Periods.{value_periods, test_periods, periods, period}
use Rattle.lrp_model.specs.Steps.{PlanStep, Steps, step_at, reach_at}
use Rattle.lrp_model.specs.Plans.{query_reach}
use Rattle.lrp_model.specs.declared.relations.Relation.{Relation}
use Rattle.lrp_model.specs.declared.formulas.Test.{Test}
use Rattle.lrp_model.specs.declared.formulas.Test.TheVariants.{Compare, Member, Equal}
use Rattle.lrp_model.specs.declared.plans.StepKind.{StepKind}
use Rattle.lrp_model.specs.declared.plans.StepKind.TheVariants.{Scan, Leaf, Sort as SortStep, Join, Select, Complement, DropTime, DropData, Extend}
use Rattle.lrp_plan_laws.specs.Made.{IsEarlier, operands}

-- the period of step s; only steps that are there are asked for
abbrev pub period_at : Steps → ℕ → ℕ
period_at steps s = unwrap_or (option_map (λ step. step.period) (step_at steps s)) 1

-- the periods that a step itself names: those of the rows that it scans, and of its `in` tests
abbrev pub named_periods : List Relation → StepKind → List ℕ
named_periods db (Scan name terms) = flat_map (λ row. flat_map value_periods row.values) (rows_of db name)
named_periods db (Leaf t) = test_periods t
named_periods db (Join left right tests) = flat_map test_periods tests
named_periods db (Select of t) = test_periods t
named_periods db kind = []

-- the period of a test: that of its point, or 1
abbrev pub natural_test_period : Test → ℕ
natural_test_period (Compare left op right) = 1
natural_test_period (Member term point) = nat_abs point.period
natural_test_period (Equal left right) = 1

-- a step that meets no second one has the period of what it reads; a test has its own, and texts have 1
abbrev pub KeepsPeriod : (ℕ → ℕ) → ℕ → StepKind → Type 0
KeepsPeriod at K (Leaf t) = K ≡ natural_test_period t
KeepsPeriod at K (SortStep v s texts) = K ≡ 1
KeepsPeriod at K (Complement of) = K ≡ at of
KeepsPeriod at K (DropTime of v) = K ≡ at of
KeepsPeriod at K (DropData of v) = K ≡ at of
KeepsPeriod at K (Extend of) = K ≡ at of
KeepsPeriod at K kind = Unit {0}

-- each period that a query names is at least 1, as in every database and query that is read
abbrev pub HasPeriods : List Relation → Question → Type 0
HasPeriods db q = AllByRecursion (λ k. 1 ≤ k) (periods q.body db)

-- the periods in the rows of a database
abbrev pub database_periods : List Relation → List ℕ
database_periods relations = flat_map (λ relation. flat_map (λ row. flat_map value_periods row.values) relation.rows) relations

-- step s of a plan reads earlier steps, its reach is at least its period and their reaches, its period is a multiple of theirs and of those that it names, and neither is above the query's
pub record IsRising (steps : Steps) (db : List Relation) (q : Question) (s : ℕ) (step : PlanStep) : Type 0 where
  pub earlier : AllByRecursion (IsEarlier s) (operands step.kind)
  pub positive : 1 ≤ step.period
  pub wide : step.period ≤ step.reach
  pub above : AllByRecursion (λ l. reach_at steps l ≤ step.reach) (operands step.kind)
  pub multiple : AllByRecursion (λ l. IsMultiple (period_at steps l) step.period) (operands step.kind)
  pub points : AllByRecursion (λ k. (1 ≤ k) × IsMultiple k step.period) (named_periods db step.kind)
  pub keeps : KeepsPeriod (period_at steps) step.period step.kind
  pub divides : IsMultiple step.period (period db q.body)
  pub within : step.period ≤ period db q.body
  pub below : step.reach ≤ query_reach steps
