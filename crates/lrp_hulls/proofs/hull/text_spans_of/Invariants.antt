-- The texts that were looked at have their spans.
use Rattle.lrp_hulls.proofs.Hulled.{AreTextsBefore}
use Rattle.lrp_hulls.proofs.hull.text_spans_of.Given as goal

abbrev pub invariant-loop-i : goal.invariant-loop-i
invariant-loop-i l = AreTextsBefore l.numbers l.i l.spans
