-- What is known of the integers of one variable.
use Rattle.std.specs.Prelude.{◌≡◌, ◌≤ℤ◌, ℕ, ℤ, List, Option, Some, None, slice_get}
use Rattle.lrp_point.specs.Points.{PointView, IsIn}
use Rattle.lrp_kept.specs.declared.spans.ColumnSpan.{ColumnSpan}

-- the integer is at least the known least one
abbrev pub IsAtLeast : Option ℤ → ℤ → Type 0
IsAtLeast None x = Unit {0}
IsAtLeast (Some least) x = least ≤ℤ x

-- and at most the known greatest one
abbrev pub IsAtMost : Option ℤ → ℤ → Type 0
IsAtMost None x = Unit {0}
IsAtMost (Some most) x = x ≤ℤ most

-- and a member of the known point
abbrev pub IsOfPoint : Option PointView → ℤ → Type 0
IsOfPoint None x = Unit {0}
IsOfPoint (Some point) x = IsIn point x

-- the integer is as is known
pub record IsInSpan (s : ColumnSpan) (x : ℤ) : Type 0 where
  pub least : IsAtLeast s.least x
  pub most : IsAtMost s.most x
  pub point : IsOfPoint s.point x

-- each integer is in the span at its place
pub record AreInSpans (spans : List ColumnSpan) (xs : ℕ → ℤ) : Type 0 where
  pub each : (i : ℕ) (s : ColumnSpan) → slice_get spans i ≡ Some s → IsInSpan s (xs i)
