-- One more hole comes before the span, or the first does not.
use Rattle.std.proofs.Common.{None, arith, subst, sym}
use Rattle.std.proofs.lemmas.Option.{get_or_from_slice_get, slice_get_within}
use Rattle.lrp_spans.specs.Spans.{SpanComesBefore}
use Rattle.lrp_spans.proofs.DifferenceLaws.{before_more}
use Rattle.lrp_spans.proofs.differences.passed.Goals as goal

pub loop-next-preserved : goal.loop-next-preserved
loop-next-preserved c = (
  omega (arith, c.loop-next-test.true),
  before_more c.args.holes.now c.loop-next.next (record { residue = 0; first = None; last = None }) c.args.span.now c.loop-next-test.true c.loop-next.invariant.1 (c.is_before.ensures.0 c.if-is_before.true),
)

pub returns-else-is_before-clause-stop : goal.returns-else-is_before-clause-stop
returns-else-is_before-clause-stop c = λ hole e b.
    cc (c.is_before.ensures.1 (subst (λ h. SpanComesBefore h c.args.span.now) (sym (get_or_from_slice_get c.args.holes.now c.loop-next.next hole (record { residue = 0; first = None; last = None }) e)) b), c.if-is_before.false)

pub returns-after-loop-next-clause-stop : goal.returns-after-loop-next-clause-stop
returns-after-loop-next-clause-stop c = λ hole e b. absurd (omega (arith, slice_get_within c.args.holes.now c.loop-next.next hole e, c.loop-next-test.false))
