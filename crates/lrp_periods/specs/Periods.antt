-- Periods of parts, which divide the period of the whole.
use Rattle.std.specs.Prelude.{◌≤ℤ◌, ℤ, pos}
use Rattle.std.specs.List.{AllByRecursion}
use Rattle.lrp_theory.specs.Divides.{Divides}
use Rattle.lrp_model.specs.declared.formulas.Test.{Test}
use Rattle.lrp_model.specs.declared.relations.Row.{Row}
use Rattle.lrp_model.specs.declared.relations.Value.{Value}
use Rattle.lrp_tables.specs.Calls.{test_period}
use Rattle.lrp_steps.specs.Rows.{DividesPeriod}

-- a period that divides the whole one
pub record IsOwnPeriod (whole period : ℤ) : Type 0 where
  pub low : pos 1 ≤ℤ period
  pub divides : Divides period whole

-- a multiple of both periods that divides the whole one
pub record IsCommonPeriod (left right whole period : ℤ) : Type 0 where
  pub own : IsOwnPeriod whole period
  pub of_left : Divides left period
  pub of_right : Divides right period

-- the period of the test divides the whole one
abbrev pub HasTestPeriod : ℤ → Test → Type 0
HasTestPeriod whole test = IsOwnPeriod whole (test_period test)

-- the points of the row have periods that divide this one, which divides the whole one
pub record IsRowPeriod (whole : ℤ) (row : Row) (period : ℤ) : Type 0 where
  pub own : IsOwnPeriod whole period
  pub values : AllByRecursion (DividesPeriod period) row.values

-- the points of the row have periods that divide this one
abbrev pub RowHasPeriods : ℤ → Row → Type 0
RowHasPeriods whole row = AllByRecursion (DividesPeriod whole) row.values

-- a multiple of the period, and of the value's where it is a point; it divides the whole one
pub record IsValuePeriod (whole own : ℤ) (value : Value) (period : ℤ) : Type 0 where
  pub own_is : IsOwnPeriod whole period
  pub of_own : Divides own period
  pub of_value : DividesPeriod period value
