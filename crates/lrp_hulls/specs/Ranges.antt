-- Ranges: between which ends the values of a column lie, and where modulo a step.
use Rattle.std.specs.Prelude.{ℕ, ℤ, List, None, slice_index_or}
use Rattle.lrp_matrix.specs.Ranges.{Above}
use Rattle.lrp_theory.specs.Bounds.{Within}
use Rattle.lrp_systems.specs.Windows.{IsInResidueWindow}
use Rattle.lrp_hulls.specs.declared.range.ColumnRange.{ColumnRange}

-- x is between the ends that there are, and in the window
pub record IsInHullRange (range : ColumnRange) (x : ℤ) : Type 0 where
  pub low : Above x range.low
  pub high : Within x range.high
  pub window : IsInResidueWindow range.window x

-- the range of the column after i
abbrev pub hull_range_at : List ColumnRange → ℕ → ColumnRange
hull_range_at ranges i = slice_index_or ranges i (record { low = None; high = None; window = record { start = 0; width = 0; step = 1 } })
