use Rattle.std.proofs.Common.{take, flat_map}
use Rattle.lrp_limits.specs.Facts.{KeepsMultiples}
use Rattle.lrp_model.specs.Periods.{row_periods}
use Rattle.lrp_kept.specs.Sizes.{period_number}
use Rattle.lrp_keep.proofs.states.with_all_periods.Given as goal

-- with the rows so far
abbrev pub invariant-loop-row : goal.invariant-loop-row
invariant-loop-row l = KeepsMultiples (flat_map row_periods (take l.row-index l.row-items)) (period_number l.fn.period) (period_number l.all)
