-- The period of the values so far.
use Rattle.std.proofs.Common.{take}
use Rattle.lrp_periods.proofs.ScanParts.{ArePeriodsOf}
use Rattle.lrp_periods.proofs.scans.row_period.Given as goal

abbrev pub invariant-loop-value : goal.invariant-loop-value
invariant-loop-value l = ArePeriodsOf l.fn.whole (take l.value-index l.row.values) l.own
