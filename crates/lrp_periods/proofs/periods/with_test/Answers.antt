-- A test of membership has the period of its point, and each other one the period 1.
use Rattle.std.proofs.Common.{subst, sym, to_z, of_z, w64}
use Rattle.lrp_tables.specs.Calls.{test_period}
use Rattle.lrp_periods.specs.Periods.{HasTestPeriod, IsCommonPeriod}
use Rattle.lrp_periods.proofs.PeriodLaws.{common_own, common_word, one_common}
use Rattle.lrp_periods.proofs.periods.with_test.Goals as goal

pub returns-in-Member : goal.returns-in-Member
returns-in-Member c = subst (λ t. IsCommonPeriod c.args.own (test_period t) c.args.whole (to_z w64 (of_z w64 c.common_period.result))) (sym c.in-Member.is)
    (common_own c.requires.whole c.requires.own (subst (HasTestPeriod c.args.whole) c.in-Member.is c.requires.test) c.common_period.ensures)

pub returns-in-Compare : goal.returns-in-Compare
returns-in-Compare c = subst (λ t. IsCommonPeriod c.args.own (test_period t) c.args.whole (to_z w64 (of_z w64 c.args.own))) (sym c.in-Compare.is) (common_word c.requires.whole (one_common c.requires.own))

pub returns-in-Equal : goal.returns-in-Equal
returns-in-Equal c = subst (λ t. IsCommonPeriod c.args.own (test_period t) c.args.whole (to_z w64 (of_z w64 c.args.own))) (sym c.in-Equal.is) (common_word c.requires.whole (one_common c.requires.own))
