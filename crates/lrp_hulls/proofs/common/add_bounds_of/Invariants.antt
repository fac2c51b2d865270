-- The bounds so far are met by all.
use Rattle.lrp_hulls.specs.Common.{AreCommonBounds}
use Rattle.lrp_hulls.proofs.common.add_bounds_of.Given as goal

abbrev pub invariant-loop-j : goal.invariant-loop-j
invariant-loop-j l = AreCommonBounds l.columns l.pieces l.bounds.items
