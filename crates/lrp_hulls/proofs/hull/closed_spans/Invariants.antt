-- The columns that were looked at have their spans.
use Rattle.lrp_hulls.proofs.Hulled.{AreSpansBefore}
use Rattle.lrp_hulls.proofs.hull.closed_spans.Given as goal

abbrev pub invariant-loop-i : goal.invariant-loop-i
invariant-loop-i l = AreSpansBefore l.zone l.i l.spans
