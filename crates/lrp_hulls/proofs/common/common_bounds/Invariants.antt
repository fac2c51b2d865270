-- The bounds so far are met by all.
use Rattle.lrp_hulls.specs.Common.{AreCommonBounds}
use Rattle.lrp_hulls.proofs.common.common_bounds.Given as goal

abbrev pub invariant-loop-i : goal.invariant-loop-i
invariant-loop-i l = AreCommonBounds l.columns l.pieces l.bounds.items
