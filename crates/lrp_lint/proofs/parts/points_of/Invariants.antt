-- The points so far.
use Rattle.std.proofs.Common.{take}
use Rattle.lrp_lint.specs.Contents.{ArePointParts, row_points}
use Rattle.lrp_lint.proofs.parts.points_of.Given as goal

abbrev pub invariant-loop-value : goal.invariant-loop-value
invariant-loop-value l = ArePointParts 1 (row_points (take l.value-index l.values)) l.parts.items
