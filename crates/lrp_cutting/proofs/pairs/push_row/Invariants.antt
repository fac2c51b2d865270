-- The first pairs of the row are appended.
use Rattle.std.proofs.Common.{◌≡◌, ◌++◌}
use Rattle.lrp_cutting.specs.Thresholds.{row_of_pairs}
use Rattle.lrp_cutting.proofs.pairs.push_row.Given as goal

abbrev pub invariant-loop-right : goal.invariant-loop-right
invariant-loop-right l = (l.made.items ≡ l.initial.made.items ++ row_of_pairs l.right l.left)
