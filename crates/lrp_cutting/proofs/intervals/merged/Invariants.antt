-- The first intervals are merged.
use Rattle.std.proofs.Common.{take, ◌∷◌}
use Rattle.lrp_cutting.proofs.MergeLaws.{AreMerging}
use Rattle.lrp_cutting.proofs.intervals.merged.Given as goal

abbrev pub invariant-loop-next : goal.invariant-loop-next
invariant-loop-next l = AreMerging l.cell (l.fn.first ∷ take l.next-index l.rest) l.made l.last
