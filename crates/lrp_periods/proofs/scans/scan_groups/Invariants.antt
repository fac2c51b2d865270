-- The parts have what the rows have that are no more left.
use Rattle.lrp_periods.specs.Scanning.{CanScanSource}
use Rattle.lrp_periods.proofs.ScanParts.{IsGrouping}
use Rattle.lrp_periods.proofs.scans.scan_groups.Given as goal

abbrev pub invariant-loop-turn : goal.invariant-loop-turn
invariant-loop-turn l = (can : CanScanSource l.setting.domain.now l.source) → IsGrouping can l.parts l.left
