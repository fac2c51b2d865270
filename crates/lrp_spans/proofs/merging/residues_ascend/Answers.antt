-- One more residue.
use Rattle.std.proofs.Common.{None, arith}
use Rattle.lrp_spans.specs.declared.spans.Span.{Span}
use Rattle.lrp_spans.proofs.MergeLaws.{ascend_all, ascend_more, ascend_one}
use Rattle.lrp_spans.proofs.merging.residues_ascend.Goals as goal

abbrev none : Span
none = record { residue = 0; first = None; last = None }

pub loop-i-init : goal.loop-i-init
loop-i-init c = ascend_one c.args.spans.now

pub loop-i-preserved : goal.loop-i-preserved
loop-i-preserved c = ascend_more c.loop-i.i c.args.spans.now none (omega (arith, c.loop-i.auto.i)) c.if-spans-i.false c.loop-i.invariant

pub returns : goal.returns
returns c = λ _. ascend_all c.loop-i.i c.args.spans.now c.loop-i-test.false c.loop-i.invariant
