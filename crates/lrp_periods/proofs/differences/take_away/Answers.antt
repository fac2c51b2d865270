-- A difference in the least period that both parts have.
use Rattle.lrp_periods.proofs.JoinParts.{pair_period}
use Rattle.lrp_periods.proofs.PartLaws.{part_own}
use Rattle.lrp_periods.proofs.TakenApart.{can_minus, taken_part}
use Rattle.lrp_periods.proofs.differences.take_away.Goals as goal

pub minus-requires : goal.minus-requires
minus-requires c = can_minus c.requires (pair_period c.requires.period_is (part_own c.requires.left_is) (part_own c.requires.right_is) c.period.ensures c.period-2.ensures c.common_period-own.ensures)

pub returns : goal.returns
returns c = taken_part c.requires (pair_period c.requires.period_is (part_own c.requires.left_is) (part_own c.requires.right_is) c.period.ensures c.period-2.ensures c.common_period-own.ensures) c.small.result c.in_ok-made.ensures.difference c.small.ensures.same c.small.ensures.valid c.small.ensures.reach
