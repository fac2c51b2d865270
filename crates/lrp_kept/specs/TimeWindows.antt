-- From where to where a time is.
use Rattle.std.specs.Prelude.{ℤ}
use Rattle.lrp_kept.specs.Spans.{IsAtLeast, IsAtMost}
use Rattle.lrp_kept.specs.declared.windows.TimeWindow.{TimeWindow}

-- the integer is between the known ends
pub record IsInTimeWindow (w : TimeWindow) (x : ℤ) : Type 0 where
  pub least : IsAtLeast w.least x
  pub most : IsAtMost w.most x
