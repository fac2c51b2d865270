-- Test after test, the period is that of the tests so far.
use Rattle.std.proofs.Common.{refl, arith, to_z, w64}
use Rattle.lrp_periods.specs.Periods.{IsOwnPeriod}
use Rattle.lrp_periods.proofs.PeriodLaws.{common_word, of_word, periods_all, periods_more, periods_none, worded_whole}
use Rattle.lrp_periods.proofs.Words.{end_in, is_in, low_in}
use Rattle.lrp_periods.proofs.periods.period_of_tests.Goals as goal

pub loop-test-init : goal.loop-test-init
loop-test-init c = periods_none c.args.tests.now 0 refl refl

pub with_test-own-requires-clause-own : goal.with_test-own-requires-clause-own
with_test-own-requires-clause-own c = c.loop-test.invariant.own_is

pub loop-test-preserved : goal.loop-test-preserved
loop-test-preserved c = periods_more c.args.tests.now c.loop-test.test-index c.test-item.result (low_in _ c.args.tests.now c.loop-test.test-index c.as_slice-test-items.ensures c.loop-test-test.true) (is_in _ c.args.tests.now c.loop-test.test-index c.test-item.result c.as_slice-test-items.ensures c.test-item.is) c.loop-test.invariant
    (common_word (worded_whole c.requires.whole) c.with_test-own.ensures)

pub returns-clause-own : goal.returns-clause-own
returns-clause-own c = of_word c.requires.whole (λ p. IsOwnPeriod p (to_z w64 c.loop-test.own-bits)) c.loop-test.invariant.own_is

pub returns-clause-tests : goal.returns-clause-tests
returns-clause-tests c = periods_all c.args.tests.now c.loop-test.test-index (end_in _ c.args.tests.now c.loop-test.test-index c.as_slice-test-items.ensures (let l = c.loop-test-test.false in omega (arith, l))) c.loop-test.invariant
