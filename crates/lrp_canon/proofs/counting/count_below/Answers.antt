-- One more residue is below the end.
use Rattle.std.proofs.Common.{arith, ◌<◌}
use Rattle.lrp_spans.proofs.Lists.{front_all}
use Rattle.lrp_canon.proofs.counting.count_below.Goals as goal

pub loop-next-preserved : goal.loop-next-preserved
loop-next-preserved c = (
  omega (arith, c.loop-next-test.true),
  front_all (λ r. r < c.args.end) c.args.residues.now c.loop-next.next 0 c.loop-next-test.true c.loop-next.invariant.1 c.if-residues-next.true,
)
