-- The first rows are appended.
use Rattle.std.proofs.Common.{◌≡◌}
use Rattle.std.specs.Prelude.{flat_map}
use Rattle.std.specs.List.{range_with_len}
use Rattle.lrp_cutting.specs.Thresholds.{row_of_pairs}
use Rattle.lrp_cutting.proofs.pairs.pairs.Given as goal

abbrev pub invariant-loop-left : goal.invariant-loop-left
invariant-loop-left l = (l.made.items ≡ flat_map (row_of_pairs l.nodes) (range_with_len 0 l.left))
