-- Each cutter that the zone meets has one of the windows.
use Rattle.std.proofs.Common.{◌∷◌, List}
use Rattle.lrp_zone.specs.Zones.{ZoneView}
use Rattle.lrp_cutting.specs.Windows.{AreNearIn, HaveLines}
use Rattle.lrp_cutting.proofs.cutters.nearest.Given as goal

abbrev pub invariant-loop-line : goal.invariant-loop-line
invariant-loop-line l = (cutters : List ZoneView) → HaveLines cutters (l.first ∷ l.rest) → AreNearIn l.zone cutters l.near
