-- The period of the tests so far.
use Rattle.std.proofs.Common.{take}
use Rattle.lrp_periods.proofs.PeriodLaws.{HasPeriodsOf}
use Rattle.lrp_periods.proofs.periods.period_of_tests.Given as goal

abbrev pub invariant-loop-test : goal.invariant-loop-test
invariant-loop-test l = HasPeriodsOf l.fn.whole (take l.test-index l.tests) l.own
