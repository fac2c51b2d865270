use Rattle.std.proofs.Common.{take}
use Rattle.lrp_kept.proofs.Outlined.{AreSpansOf}
use Rattle.lrp_kept.proofs.outlines.Outline.of.Given as goal

-- of the zones so far
abbrev pub invariant-loop-placed : goal.invariant-loop-placed
invariant-loop-placed l = AreSpansOf (take l.placed-index l.pattern.zones) l.times l.all
