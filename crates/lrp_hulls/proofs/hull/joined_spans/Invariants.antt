-- The spans that were joined are wider than both.
use Rattle.lrp_hulls.proofs.Hulled.{AreWiderBefore}
use Rattle.lrp_hulls.proofs.hull.joined_spans.Given as goal

abbrev pub invariant-loop-i : goal.invariant-loop-i
invariant-loop-i l = record {
  left : AreWiderBefore l.left l.i l.spans;
  right : AreWiderBefore l.right l.i l.spans;
}
