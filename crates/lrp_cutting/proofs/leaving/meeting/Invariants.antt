-- The first cutters were looked at.
use Rattle.std.proofs.Common.{take}
use Rattle.lrp_cutting.specs.Leaving.{AreMeeting}
use Rattle.lrp_cutting.proofs.leaving.meeting.Given as goal

abbrev pub invariant-loop-cutter : goal.invariant-loop-cutter
invariant-loop-cutter l = AreMeeting l.zone (take l.cutter-index l.cutters) l.met
