use Rattle.lrp_kept.proofs.Outlined.{AreCopied}
use Rattle.lrp_kept.proofs.outlines.first_known.Given as goal

-- those so far
abbrev pub invariant-loop-i : goal.invariant-loop-i
invariant-loop-i l = AreCopied l.known l.i l.all
