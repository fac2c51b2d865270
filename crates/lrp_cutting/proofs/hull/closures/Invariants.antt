-- The first zones are closed.
use Rattle.std.proofs.Common.{take}
use Rattle.lrp_cutting.specs.Hulls.{AreClosures}
use Rattle.lrp_cutting.proofs.hull.closures.Given as goal

abbrev pub invariant-loop-zone : goal.invariant-loop-zone
invariant-loop-zone l = AreClosures (take l.zone-index l.zones) l.made.items
