-- The spans that were joined are wider than both.
use Rattle.lrp_hulls.proofs.Hulled.{AreWiderTextsBefore}
use Rattle.lrp_hulls.proofs.hull.joined_texts.Given as goal

abbrev pub invariant-loop-i : goal.invariant-loop-i
invariant-loop-i l = record {
  left : AreWiderTextsBefore l.left l.i l.spans;
  right : AreWiderTextsBefore l.right l.i l.spans;
}
