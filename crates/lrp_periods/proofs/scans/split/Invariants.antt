-- The rows so far are split.
use Rattle.std.proofs.Common.{take}
use Rattle.lrp_periods.specs.Scanning.{IsSplitBy}
use Rattle.lrp_periods.proofs.scans.split.Given as goal

abbrev pub invariant-loop-row : goal.invariant-loop-row
invariant-loop-row l = IsSplitBy l.fn.whole l.fn.own (take l.row-index l.rows) (record { same = l.same; others = l.others })
