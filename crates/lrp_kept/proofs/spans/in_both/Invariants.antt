use Rattle.lrp_kept.proofs.Spanning.{AreInBoth}
use Rattle.lrp_kept.proofs.spans.in_both.Given as goal

-- the spans of the places so far are narrowed
abbrev pub invariant-loop-i : goal.invariant-loop-i
invariant-loop-i l = AreInBoth l.left l.right l.all
