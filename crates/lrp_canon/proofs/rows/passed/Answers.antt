-- One more stop comes before the start, or the first does not.
use Rattle.std.proofs.Common.{None, arith, subst, sym}
use Rattle.std.proofs.lemmas.Option.{get_or_from_slice_get, slice_get_within}
use Rattle.lrp_spans.proofs.Lists.{front_all}
use Rattle.lrp_canon.specs.Edges.{IsEarlierEdge}
use Rattle.lrp_canon.proofs.rows.passed.Goals as goal

pub loop-next-preserved : goal.loop-next-preserved
loop-next-preserved c = (
  omega (arith, c.loop-next-test.true),
  front_all (λ e. IsEarlierEdge e c.args.start.now) c.args.stops.now c.loop-next.next (record { residue = 0; number = None }) c.loop-next-test.true c.loop-next.invariant.1 (c.is_before.ensures.0 c.if-is_before.true),
)

pub returns-else-is_before-clause-stop : goal.returns-else-is_before-clause-stop
returns-else-is_before-clause-stop c = λ e q b.
    cc (c.is_before.ensures.1 (subst (λ h. IsEarlierEdge h c.args.start.now) (sym (get_or_from_slice_get c.args.stops.now c.loop-next.next e (record { residue = 0; number = None }) q)) b), c.if-is_before.false)

pub returns-after-loop-next-clause-stop : goal.returns-after-loop-next-clause-stop
returns-after-loop-next-clause-stop c = λ e q b. absurd (omega (arith, slice_get_within c.args.stops.now c.loop-next.next e q, c.loop-next-test.false))
