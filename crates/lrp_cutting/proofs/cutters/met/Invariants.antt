-- Those of the first windows that the zone meets are listed.
use Rattle.std.proofs.Common.{take}
use Rattle.lrp_cutting.proofs.NearLaws.{AreMetOf}
use Rattle.lrp_cutting.proofs.cutters.met.Given as goal

abbrev pub invariant-loop-window : goal.invariant-loop-window
invariant-loop-window l = AreMetOf l.zone l.cutters (take l.window-index l.near) l.met
