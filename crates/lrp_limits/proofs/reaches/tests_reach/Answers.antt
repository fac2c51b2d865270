use Rattle.std.proofs.Common.{arith}
use Rattle.lrp_model.specs.Reach.{test_reach}
use Rattle.lrp_limits.proofs.Greatest.{greatest_map_step}
use Rattle.lrp_limits.proofs.reaches.tests_reach.Goals as goal

pub loop-test-preserved : goal.loop-test-preserved
loop-test-preserved c =
    let e = greatest_map_step test_reach c.args.tests.now c.loop-test.test-index c.test-item.result c.loop-test-test.true c.test-item.is in
    omega (arith, e, c.test_reach.ensures, c.max-reach.ensures, c.loop-test.invariant)
