-- A point has its period, and a text the period 1.
use Rattle.lrp_periods.proofs.PeriodLaws.{common_plain, worded_own}
use Rattle.lrp_periods.proofs.ScanParts.{point_is, value_point, value_text, value_word}
use Rattle.lrp_periods.proofs.scans.with_value.Goals as goal

pub common_period-requires-clause-right : goal.common_period-requires-clause-right
common_period-requires-clause-right c = worded_own c.requires.whole (point_is c.requires.value c.in-Point.is)

pub returns-in-Point : goal.returns-in-Point
returns-in-Point c = value_word c.requires.whole (value_point c.requires.value c.in-Point.is (common_plain c.requires.whole c.requires.own (point_is c.requires.value c.in-Point.is) c.common_period.ensures))

pub returns-in-Const : goal.returns-in-Const
returns-in-Const c = value_word c.requires.whole (value_text c.in-Const.is c.requires.own)
