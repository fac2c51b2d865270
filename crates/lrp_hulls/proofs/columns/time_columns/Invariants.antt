-- The columns that were gone over have their spans.
use Rattle.std.proofs.Common.{◌≤◌}
use Rattle.lrp_hulls.specs.Columns.{AreTimeColumns}
use Rattle.lrp_hulls.proofs.columns.time_columns.Given as goal

abbrev pub invariant-loop-i : goal.invariant-loop-i
invariant-loop-i l = record {
  low : l.i ≤ l.columns;
  are : AreTimeColumns l.hulls l.i l.made.items;
}
