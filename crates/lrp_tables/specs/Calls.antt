-- What the steps of a plan ask of the columns, tests and rows that they are given.
use Rattle.std.specs.Prelude.{◌≡◌, ◌≤◌, ◌≤ℤ◌, ℕ, ℤ, pos, true, List, length, map, Contains, slice_index, ◌-◌}
use Rattle.std.specs.List.{AllByRecursion, AllZip}
use Rattle.lrp_theory.specs.Divides.{Divides}
use Rattle.lrp_model.specs.Texts.{Text, Identifier}
use Rattle.lrp_model.specs.Sorts.{is_time, is_data, time_count}
use Rattle.lrp_model.specs.Reach.{greatest, test_reach}
use Rattle.lrp_model.specs.declared.relations.Column.{Column}
use Rattle.lrp_model.specs.declared.relations.Bound.{Bound}
use Rattle.lrp_model.specs.declared.relations.Value.{Value}
use Rattle.lrp_model.specs.declared.relations.Value.TheVariants.{Point, Const}
use Rattle.lrp_model.specs.declared.relations.Row.{Row}
use Rattle.lrp_model.specs.declared.formulas.DataTerm.TheVariants.{Var as data_var, Const as data_const}
use Rattle.lrp_model.specs.declared.formulas.Term.{Term}
use Rattle.lrp_model.specs.declared.formulas.Term.TheVariants.{Time as time_term, Data as data_term}
use Rattle.lrp_model.specs.declared.formulas.Test.{Test}
use Rattle.lrp_model.specs.declared.formulas.Test.TheVariants.{Compare, Member, Equal}
use Rattle.lrp_tables.specs.declared.table.Table.{Table}
use Rattle.lrp_tables.specs.Columns.{joint, times_of_test, texts_of_test}
use Rattle.lrp_tables.specs.Tables.{AreNamesAmong, HaveNoName}

-- ---- two tables

-- two tables together have at most 8 variables of each kind, and none is a time variable of the one and a data variable of the other
pub record CanMeet (left right : Table) : Type 0 where
  pub times : length (joint left.vars.times right.vars.times) ≤ 8
  pub texts : length (joint left.vars.texts right.vars.texts) ≤ 8
  pub left_apart : HaveNoName left.vars.times right.vars.texts
  pub right_apart : HaveNoName right.vars.times left.vars.texts

-- the variables of the second table are variables of the first
pub record AreVariablesOf (left right : Table) : Type 0 where
  pub times : AreNamesAmong right.vars.times left.vars.times
  pub texts : AreNamesAmong right.vars.texts left.vars.texts

-- ---- tests

-- the period of a test: that of its point, or 1
abbrev pub test_period : Test → ℤ
test_period (Compare left op right) = pos 1
test_period (Member term point) = point.period
test_period (Equal left right) = pos 1

-- a test of variables of these names, whose period is at least 1 and divides the step's
pub record CanBeCarried (times texts : List Identifier) (period : ℤ) (test : Test) : Type 0 where
  pub times_known : AreNamesAmong (times_of_test test) times
  pub texts_known : AreNamesAmong (texts_of_test test) texts
  pub low : pos 1 ≤ℤ test_period test
  pub divides : Divides (test_period test) period

-- the greatest reach of the tests as steps of their own
abbrev pub tests_reach : List Test → ℕ
tests_reach tests = greatest (map test_reach tests)

-- ---- relations

-- in a column of times a point whose period is at least 1 and divides the step's, and in one of a data sort a text of the domain
abbrev pub CanStand : List Text → ℤ → Column → Value → Type 0
CanStand domain period c (Point at) = (is_time c.sort ≡ true) × (pos 1 ≤ℤ at.period) × Divides at.period period
CanStand domain period c (Const t) = (is_data c.sort ≡ true) × Contains domain t

-- a bound between two of these time columns, or one of them and zero
pub record IsColumnBound (times : ℕ) (bound : Bound) : Type 0 where
  pub left : bound.left ≤ times
  pub right : bound.right ≤ times

-- a row with one value for each column, and bounds on its time columns
pub record CanBeRow (domain : List Text) (period : ℤ) (columns : List Column) (row : Row) : Type 0 where
  pub values : AllZip (CanStand domain period) columns row.values
  pub bounds : AllByRecursion (IsColumnBound (time_count columns)) row.bounds

-- the text of a data term, where it is one, is of the domain
abbrev pub HasText : List Text → Term → Type 0
HasText domain (time_term t) = Unit {0}
HasText domain (data_term (data_var v)) = Unit {0}
HasText domain (data_term (data_const t)) = Contains domain t

-- the number of the text at a place, counted from 1
abbrev pub number_at : List ℕ → ℕ → ℕ
number_at numbers place = slice_index numbers (place - 1)
