-- The parts so far inhabit no more cells than the total.
use Rattle.std.proofs.Common.{◌≤◌}
use Rattle.lrp_periods.proofs.Summing.{FirstHaveFew}
use Rattle.lrp_periods.proofs.bounding.cells_together.Given as goal

abbrev pub invariant-loop-part : goal.invariant-loop-part
invariant-loop-part l = record {
  within : l.total ≤ l.cap;
  few : FirstHaveFew l.total l.period l.parts l.part-index;
}
