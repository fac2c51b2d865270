-- One more residue is below the end.
use Rattle.std.proofs.Common.{None, arith, ◌<◌}
use Rattle.lrp_spans.proofs.Lists.{front_all}
use Rattle.lrp_spans.proofs.shifting.count_below.Goals as goal

pub loop-next-preserved : goal.loop-next-preserved
loop-next-preserved c = (
  omega (arith, c.loop-next-test.true),
  front_all (λ s. s.residue < c.args.end) c.args.spans.now c.loop-next.next (record { residue = 0; first = None; last = None }) c.loop-next-test.true c.loop-next.invariant.1 c.if-spans-next.true,
)
