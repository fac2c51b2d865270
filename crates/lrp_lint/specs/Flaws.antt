-- What can be wrong with a row, and when it is.
use Rattle.std.specs.Prelude.{◌≡◌, ◌≢◌, ◌+◌, ◌<◌, ◌≤◌, ◌^◌, ◌⊎◌, ℕ, pos, nat_abs, List, Contains, map}
use Rattle.std.specs.List.{AllByRecursion}
use Rattle.lrp_theory.specs.Divides.{IsCommon}
use Rattle.lrp_model.specs.Periods.{row_periods}
use Rattle.lrp_model.specs.Reach.{greatest}
use Rattle.lrp_model.specs.Rows.{Tuple, IsInRow}
use Rattle.lrp_model.specs.Sorts.{time_count}
use Rattle.lrp_model.specs.declared.relations.Bound.{Bound}
use Rattle.lrp_model.specs.declared.relations.Row.{Row}
use Rattle.lrp_model.specs.declared.relations.Column.{Column}
use Rattle.lrp_lint.specs.declared.flaws.RowFlaw.{RowFlaw}
use Rattle.lrp_lint.specs.declared.flaws.RowFlaw.TheVariants.{EmptyRow, UntiedTimes, RowLimit}

-- the greatest magnitude of the row's bounds
abbrev pub row_reach : Row → ℕ
row_reach row = greatest (map (λ bound. nat_abs bound.most) row.bounds)

-- some number is a multiple of the row's periods, and is at most 2 ^ 62 with the greatest magnitude of the row's bounds
pub record IsRowWithinLimits (row : Row) : Type 0 where
  pub period : ℕ
  pub low : 0 < period
  pub common : IsCommon (row_periods row) period
  pub room : row_reach row + period ≤ 2 ^ 62

-- no tuple is in the row
abbrev pub IsEmpty : Row → Type 0
IsEmpty row = (tuple : Tuple) → IsInRow row tuple → ⊥

-- some bound is between two time columns, in either direction; column 0 is no column, but the number zero
pub record AreNeighbours (bounds : List Bound) (p q : ℕ) : Type 0 where
  pub bound : Bound
  pub held : Contains bounds bound
  pub one : 0 < p
  pub other : 0 < q
  pub between : ((bound.left ≡ p) × (bound.right ≡ q)) ⊎ ((bound.left ≡ q) × (bound.right ≡ p))

-- bounds tie two columns: they are one, or there is a way from one to the other by neighbours
pub data AreTied (bounds : List Bound) : ℕ → ℕ → Type 0 where
  itself : (p : ℕ) → AreTied bounds p p
  onward : (p q r : ℕ) → AreNeighbours bounds p q → AreTied bounds q r → AreTied bounds p r

-- two of a number of time columns that no bounds tie
pub record HasUntied (times : ℕ) (bounds : List Bound) : Type 0 where
  pub one : ℕ
  pub other : ℕ
  pub one_low : 0 < one
  pub one_high : one ≤ times
  pub other_low : 0 < other
  pub other_high : other ≤ times
  pub untied : AreTied bounds one other → ⊥

-- the row, with a value for each of the columns, has the flaw
abbrev pub HasFlaw : RowFlaw → List Column → Row → Type 0
HasFlaw EmptyRow columns row = IsRowWithinLimits row × IsEmpty row
HasFlaw UntiedTimes columns row = HasUntied (time_count columns) row.bounds
HasFlaw RowLimit columns row = IsRowWithinLimits row → ⊥
