-- What is left of the first sides is appended.
use Rattle.std.proofs.Common.{ℕ, ◌≤◌, length, take}
use Rattle.lrp_zone.specs.Zones.{reach_of}
use Rattle.lrp_cutting.specs.Cutting.{side_reach}
use Rattle.lrp_cutting.specs.Leaving.{AppendsLeft}
use Rattle.lrp_cutting.proofs.leaving.+add_left.Given as goal

abbrev pub decreases-add_left : goal.decreases-add_left
decreases-add_left l = length l.cutters.now

abbrev pub invariant-loop-side : goal.invariant-loop-side
invariant-loop-side l = (h : ℕ) → reach_of l.part ≤ h → side_reach l.part.period l.cutters ≤ h → AppendsLeft l.part (take l.side-index l.side-items) l.cutters h l.initial.made l.made
