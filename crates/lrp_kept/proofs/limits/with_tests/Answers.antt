use Rattle.std.proofs.Common.{sym}
use Rattle.lrp_model.specs.Periods.{test_periods}
use Rattle.lrp_limits.proofs.Greatest.{flat_map_step}
use Rattle.lrp_limits.proofs.Keeping.{keeps_more, keeps_as}
use Rattle.lrp_kept.proofs.limits.with_tests.Goals as goal

pub loop-test-preserved : goal.loop-test-preserved
loop-test-preserved c =
    keeps_as _ _ _ _ (sym (flat_map_step test_periods c.args.tests.now c.loop-test.test-index c.test-item.result c.loop-test-test.true c.test-item.is))
    (keeps_more _ _ _ _ _ c.loop-test.invariant c.with_test-all.ensures)
