-- What each step of a plan asks of what it is given, and what it makes of it.
use Rattle.std.specs.Prelude.{◌≡◌, ◌+◌, ◌*◌, ◌-◌, ◌≤◌, ◌^◌, ◌≤ℤ◌, ℕ, ℤ, pos, nat_abs, List, length, Result, Err, IfOk, OnOk}
use Rattle.std.specs.List.{AllByRecursion, AllZip}
use Rattle.lrp_theory.specs.Divides.{Divides}
use Rattle.lrp_model.specs.Texts.{Ascends, Text, Identifier}
use Rattle.lrp_model.specs.Reach.{scan_reach, test_reach}
use Rattle.lrp_model.specs.Satisfaction.{Assignment, HaveDistinctNames}
use Rattle.lrp_model.specs.Sorts.{FitsColumn, time_count, text_count}
use Rattle.lrp_model.specs.declared.formulas.Term.{Term}
use Rattle.lrp_model.specs.declared.formulas.Test.{Test}
use Rattle.lrp_model.specs.declared.relations.Column.{Column}
use Rattle.lrp_model.specs.declared.relations.Relation.{Relation}
use Rattle.lrp_store.specs.Stores.{HasReach}
use Rattle.lrp_store.specs.Tables.{AreNumbered}
use Rattle.lrp_tables.specs.declared.table.StepFault.{StepFault}
use Rattle.lrp_tables.specs.declared.table.StepFault.TheVariants.{TooManyCells}
use Rattle.lrp_tables.specs.declared.table.Table.{Table}
use Rattle.lrp_tables.specs.Calls.{AreVariablesOf, CanBeCarried, CanBeRow, CanMeet, HasText, test_period, tests_reach}
use Rattle.lrp_tables.specs.Caps.{InhabitsMoreThan}
use Rattle.lrp_tables.specs.Columns.{head_times, head_texts, joint, scan_times, scan_texts, test_names, test_times}
use Rattle.lrp_tables.specs.Tables.{AreNamesAmong, HaveNoName, IsComplement, IsExtended, IsJoined, IsMinus, IsScanned, IsSelected, IsTableOf, IsTested, IsUnited}

-- ---- what every step makes

-- a table of the set over these variables and in cells of this period, where it inhabits no more than cap cells, and `TooManyCells` where it inhabits more
-- where what the step is given has at most some reach, the table has at most what `most` makes of it
pub record IsStepResult (cap : ℕ) (domain : List Text) (times texts : List Identifier) (period : ℕ) (set : Assignment → Type 0) (has : ℕ → Type 0) (most : ℕ → ℕ) (result : Result Table StepFault) : Type 0 where
  pub table : IfOk result (IsTableOf domain times texts period set)
  pub reach : IfOk result (λ made. (high : ℕ) → has high → HasReach made.store (most high))
  pub few : OnOk result (InhabitsMoreThan cap domain period times texts set → ⊥)
  pub many : result ≡ Err TooManyCells → InhabitsMoreThan cap domain period times texts set

-- ---- atoms

-- a relation of at most 8 columns of each kind, with its rows, and a term for each of its columns; no name is a time variable and a data variable of the terms
pub record CanScan (domain : List Text) (period : ℤ) (relation : Relation) (terms : List Term) : Type 0 where
  pub low : pos 1 ≤ℤ period
  pub high : period ≤ℤ pos (2 ^ 62)
  pub times : time_count relation.columns ≤ 8
  pub texts : text_count relation.columns ≤ 8
  pub rows : AllByRecursion (CanBeRow domain period relation.columns) relation.rows
  pub terms_fit : AllZip FitsColumn relation.columns terms
  pub terms_known : AllByRecursion (HasText domain) terms
  pub apart : HaveNoName (scan_times terms) (scan_texts terms)
  pub reach : scan_reach relation.rows terms (nat_abs period) ≤ 2 ^ 62

abbrev pub IsScanResult : ℕ → List Text → ℤ → Relation → List Term → Result Table StepFault → Type 0
IsScanResult cap domain period relation terms =
    IsStepResult cap domain (scan_times terms) (scan_texts terms) (nat_abs period) (IsScanned domain relation terms) (λ high. scan_reach relation.rows terms (nat_abs period) ≤ high) (λ high. high)

-- ---- tests alone

-- a test whose period is at least 1
pub record CanTest (test : Test) : Type 0 where
  pub low : pos 1 ≤ℤ test_period test
  pub reach : test_reach test ≤ 2 ^ 62

abbrev pub IsLeafResult : ℕ → List Text → Test → Result Table StepFault → Type 0
IsLeafResult cap domain test = IsStepResult cap domain (test_times test) (test_names test) (nat_abs (test_period test)) (IsTested domain test) (λ high. test_reach test ≤ high) (λ high. high)

-- ---- selections

-- a table whose period divides the step's, and a test of its variables
pub record CanSelect (period : ℤ) (table : Table) (test : Test) : Type 0 where
  pub low : pos 1 ≤ℤ period
  pub high : period ≤ℤ pos (2 ^ 62)
  pub divides : Divides (pos table.store.period) period
  pub reach : HasReach table.store (2 ^ 62 - nat_abs period)
  pub carried : CanBeCarried table.vars.times table.vars.texts period test
  pub test_small : test_reach test + nat_abs period ≤ 2 ^ 62

abbrev pub IsSelectResult : ℕ → List Text → ℤ → Table → Test → Result Table StepFault → Type 0
IsSelectResult cap domain period table test =
    IsStepResult cap domain table.vars.times table.vars.texts (nat_abs period) (IsSelected domain table test) (λ high. HasReach table.store high × (test_reach test ≤ high)) (λ high. high + nat_abs period)

-- ---- joins and unions

-- two tables whose periods divide the step's, and which can stand side by side
pub record CanCombine (period : ℤ) (left right : Table) : Type 0 where
  pub low : pos 1 ≤ℤ period
  pub high : period ≤ℤ pos (2 ^ 62)
  pub left_period : Divides (pos left.store.period) period
  pub right_period : Divides (pos right.store.period) period
  pub left_reach : HasReach left.store (2 ^ 62 - nat_abs period)
  pub right_reach : HasReach right.store (2 ^ 62 - nat_abs period)
  pub columns : CanMeet left right

-- both tables have at most this reach
pub record BothReach (left right : Table) (high : ℕ) : Type 0 where
  pub left_reach : HasReach left.store high
  pub right_reach : HasReach right.store high

-- such tables, and tests of their variables
pub record CanJoin (period : ℤ) (left right : Table) (tests : List Test) : Type 0 where
  pub tables : CanCombine period left right
  pub carried : AllByRecursion (CanBeCarried (joint left.vars.times right.vars.times) (joint left.vars.texts right.vars.texts) period) tests
  pub tests_small : tests_reach tests + nat_abs period ≤ 2 ^ 62

-- the tables and the tests have at most this reach
pub record HaveReach (left right : Table) (tests : List Test) (high : ℕ) : Type 0 where
  pub left_reach : HasReach left.store high
  pub right_reach : HasReach right.store high
  pub tests_small : tests_reach tests ≤ high

abbrev pub IsJoinResult : ℕ → List Text → ℤ → Table → Table → List Test → Result Table StepFault → Type 0
IsJoinResult cap domain period left right tests =
    IsStepResult cap domain (joint left.vars.times right.vars.times) (joint left.vars.texts right.vars.texts) (nat_abs period) (IsJoined domain left right tests) (HaveReach left right tests) (λ high. high + nat_abs period)

-- such tables, of whose texts each is one of the domain
pub record CanUnite (domain : List Text) (period : ℤ) (left right : Table) : Type 0 where
  pub tables : CanCombine period left right
  pub left_numbered : AreNumbered domain left.store
  pub right_numbered : AreNumbered domain right.store

abbrev pub IsUnionResult : ℕ → List Text → ℤ → Table → Table → Result Table StepFault → Type 0
IsUnionResult cap domain period left right =
    IsStepResult cap domain (joint left.vars.times right.vars.times) (joint left.vars.texts right.vars.texts) (nat_abs period) (IsUnited domain left right) (BothReach left right) (λ high. high + nat_abs period)

-- ---- differences and complements

-- two tables whose periods divide the step's, where the first has the variables of the second
pub record CanMinus (period : ℤ) (left right : Table) : Type 0 where
  pub low : pos 1 ≤ℤ period
  pub high : 2 * nat_abs period ≤ 2 ^ 62
  pub left_period : Divides (pos left.store.period) period
  pub right_period : Divides (pos right.store.period) period
  pub left_reach : HasReach left.store (2 ^ 62 - 2 * nat_abs period)
  pub right_reach : HasReach right.store (2 ^ 62 - 2 * nat_abs period)
  pub columns : AreVariablesOf left right

-- the same table, in each domain that has the texts of the first one, since a difference reads no text
pub record IsMinusResult (cap : ℕ) (period : ℤ) (left right : Table) (result : Result Table StepFault) : Type 0 where
  pub reach : IfOk result (λ made. (high : ℕ) → BothReach left right high → HasReach made.store (high + 2 * nat_abs period))
  pub step : (domain : List Text) → Ascends domain → AreNumbered domain left.store → IsStepResult cap domain left.vars.times left.vars.texts (nat_abs period) (IsMinus domain left right) (BothReach left right) (λ high. high + 2 * nat_abs period) result

-- a table whose bounds can be turned in its period
pub record CanComplement (table : Table) : Type 0 where
  pub period : 2 * table.store.period ≤ 2 ^ 62
  pub reach : HasReach table.store (2 ^ 62 - 2 * table.store.period)

abbrev pub IsComplementResult : ℕ → List Text → Table → Result Table StepFault → Type 0
IsComplementResult cap domain table =
    IsStepResult cap domain table.vars.times table.vars.texts table.store.period (IsComplement domain table) (HasReach table.store) (λ high. high + 2 * table.store.period)

-- ---- the step `head`

-- a table of whose texts each is one of the domain, and a head that has its variables, names that differ, and at most 8 columns of each kind
pub record CanExtend (domain : List Text) (columns : List Column) (table : Table) : Type 0 where
  pub numbered : AreNumbered domain table.store
  pub times : AreNamesAmong table.vars.times (head_times columns)
  pub texts : AreNamesAmong table.vars.texts (head_texts columns)
  pub names : HaveDistinctNames columns
  pub few_times : length (head_times columns) ≤ 8
  pub few_texts : length (head_texts columns) ≤ 8

abbrev pub IsExtendResult : ℕ → List Text → List Column → Table → Result Table StepFault → Type 0
IsExtendResult cap domain columns table =
    IsStepResult cap domain (head_times columns) (head_texts columns) table.store.period (IsExtended domain columns table) (HasReach table.store) (λ high. high)
