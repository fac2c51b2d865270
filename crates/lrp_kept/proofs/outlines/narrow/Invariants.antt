use Rattle.lrp_kept.specs.Outlines.{AreNarrowed}
use Rattle.lrp_kept.proofs.outlines.narrow.Given as goal

-- by the columns so far
abbrev pub invariant-loop-i : goal.invariant-loop-i
invariant-loop-i l = AreNarrowed l.fn.times l.placed l.count l.times
