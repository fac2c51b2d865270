-- The bounds of the first pairs are found.
use Rattle.std.proofs.Common.{take}
use Rattle.lrp_cutting.specs.Hulls.{AreWidest}
use Rattle.lrp_cutting.proofs.hull.hull_bounds.Given as goal

abbrev pub invariant-loop-pair : goal.invariant-loop-pair
invariant-loop-pair l = AreWidest l.matrices (take l.pair-index l.pairs) l.made.items
