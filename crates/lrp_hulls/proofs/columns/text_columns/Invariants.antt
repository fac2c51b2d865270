-- The columns that were gone over have their spans.
use Rattle.std.proofs.Common.{◌≤◌}
use Rattle.lrp_hulls.specs.Columns.{AreTextColumns}
use Rattle.lrp_hulls.proofs.columns.text_columns.Given as goal

abbrev pub invariant-loop-i : goal.invariant-loop-i
invariant-loop-i l = record {
  low : l.i ≤ l.columns;
  are : AreTextColumns l.hulls l.i l.made.items;
}
