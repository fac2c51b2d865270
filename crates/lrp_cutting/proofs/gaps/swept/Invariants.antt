-- The first intervals are swept.
use Rattle.std.proofs.Common.{take}
use Rattle.lrp_cutting.proofs.SweepLaws.{AreSweeping}
use Rattle.lrp_cutting.proofs.gaps.swept.Given as goal

abbrev pub invariant-loop-cut : goal.invariant-loop-cut
invariant-loop-cut l = AreSweeping l.cell l.fn.whole (take l.cut-index l.cuts) l.made l.rest
