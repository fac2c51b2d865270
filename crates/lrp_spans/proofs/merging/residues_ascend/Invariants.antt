-- The residues up to the place ascend.
use Rattle.lrp_spans.proofs.MergeLaws.{AscendTo}
use Rattle.lrp_spans.proofs.merging.residues_ascend.Given as goal

abbrev pub invariant-loop-i : goal.invariant-loop-i
invariant-loop-i l = AscendTo l.i l.spans
