-- The first sides have no gap.
use Rattle.std.proofs.Common.{length, take}
use Rattle.std.specs.Prelude.{Contains}
use Rattle.lrp_zone.specs.Zones.{ZoneView}
use Rattle.lrp_cutting.specs.Leaving.{HasGap}
use Rattle.lrp_cutting.proofs.leaving.+has_gap.Given as goal

abbrev pub decreases-has_gap : goal.decreases-has_gap
decreases-has_gap l = length l.cutters.now

abbrev pub invariant-loop-side : goal.invariant-loop-side
invariant-loop-side l = (w : ZoneView) → Contains (take l.side-index l.side-items) w → HasGap w l.cutters → ⊥
