use Rattle.std.proofs.Common.{take, flat_map}
use Rattle.lrp_model.specs.Periods.{test_periods}
use Rattle.lrp_limits.specs.Facts.{KeepsMultiples}
use Rattle.lrp_kept.specs.Sizes.{period_number}
use Rattle.lrp_kept.proofs.limits.with_tests.Given as goal

-- with the tests so far
abbrev pub invariant-loop-test : goal.invariant-loop-test
invariant-loop-test l = KeepsMultiples (flat_map test_periods (take l.test-index l.tests)) (period_number l.fn.period) (period_number l.all)
