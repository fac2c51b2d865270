-- A selection in the least period that the part and the test have.
use Rattle.lrp_periods.proofs.JoinParts.{test_pair}
use Rattle.lrp_periods.proofs.OneByOne.{can_select, selected_part}
use Rattle.lrp_periods.proofs.PartLaws.{part_own}
use Rattle.lrp_periods.proofs.selections.select_part.Goals as goal

pub select-requires : goal.select-requires
select-requires c = can_select c.requires (test_pair c.requires.period_is (part_own c.requires.part_is) c.period.ensures c.with_test-own.ensures)

pub returns : goal.returns
returns c = selected_part c.requires (test_pair c.requires.period_is (part_own c.requires.part_is) c.period.ensures c.with_test-own.ensures) c.small.result c.in_ok-made.ensures.table c.small.ensures.same c.small.ensures.valid c.small.ensures.reach
