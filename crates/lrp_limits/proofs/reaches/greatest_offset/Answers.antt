use Rattle.std.proofs.Common.{arith}
use Rattle.lrp_model.specs.Reach.{term_magnitudes}
use Rattle.lrp_limits.proofs.Greatest.{greatest_step}
use Rattle.lrp_limits.proofs.reaches.greatest_offset.Goals as goal

pub loop-term-preserved : goal.loop-term-preserved
loop-term-preserved c =
    let e = greatest_step term_magnitudes c.args.terms.now c.loop-term.term-index c.term-item.result c.loop-term-test.true c.term-item.is in
    omega (arith, e, c.magnitude.ensures, c.max-most.ensures, c.loop-term.invariant)
