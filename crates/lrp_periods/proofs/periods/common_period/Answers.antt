-- The least common multiple divides the period that both divide.
use Rattle.lrp_periods.proofs.PeriodLaws.{common_word, lcm_common, whole_common, word_bounds}
use Rattle.lrp_periods.proofs.periods.common_period.Goals as goal

pub common-requires-clause-first : goal.common-requires-clause-first
common-requires-clause-first c = word_bounds c.requires.whole c.requires.left

pub common-requires-clause-second : goal.common-requires-clause-second
common-requires-clause-second c = word_bounds c.requires.whole c.requires.right

pub returns-in-Ok : goal.returns-in-Ok
returns-in-Ok c = common_word c.requires.whole (lcm_common c.requires.whole c.requires.left c.requires.right c.in-Ok.ensures.ok.0 c.in-Ok.ensures.ok.1)

pub returns-in-Err : goal.returns-in-Err
returns-in-Err c = common_word c.requires.whole (whole_common c.requires.whole c.requires.left c.requires.right)
