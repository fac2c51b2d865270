-- One part after another is added without the time variable.
use Rattle.std.proofs.Common.{arith, to_z, of_z, w64}
use Rattle.std.specs.Prelude.{◌≤◌, length}
use Rattle.lrp_cutting.proofs.Lists.{read}
use Rattle.lrp_periods.proofs.Words.{operand_word}
use Rattle.lrp_periods.proofs.Gathering.{can_put, finished_word, made_all, put_more, put_none}
use Rattle.lrp_periods.proofs.OneByOne.{drop_room, dropped_time, time_each, times_dropped}
use Rattle.lrp_periods.proofs.drops.drop_time_in_parts.Goals as goal

pub loop-part-init : goal.loop-part-init
loop-part-init c = put_none (time_each (operand_word c.requires) c.args.name.now) c.args.of.now c.new-parts.ensures

pub drop_time-requires : goal.drop_time-requires
drop_time-requires c = record { reach = drop_room (operand_word c.requires) c.args.name.now (read c.args.of.now c.loop-part.part-index c.part-item.result c.loop-part-test.true c.part-item.is) }

pub add_part-requires : goal.add_part-requires
add_part-requires c = ((to_z w64 (of_z w64 c.args.period)), can_put (operand_word c.requires).period_is c.loop-part.invariant (dropped_time (operand_word c.requires) c.args.name.now (read c.args.of.now c.loop-part.part-index c.part-item.result c.loop-part-test.true c.part-item.is) c.in_ok-dropped.ensures.dropped c.in_ok-made.ensures.same c.in_ok-made.ensures.valid c.in_ok-made.ensures.reach))

pub loop-part-preserved : goal.loop-part-preserved
loop-part-preserved c =
    let made = dropped_time (operand_word c.requires) c.args.name.now (read c.args.of.now c.loop-part.part-index c.part-item.result c.loop-part-test.true c.part-item.is) c.in_ok-dropped.ensures.dropped c.in_ok-made.ensures.same c.in_ok-made.ensures.valid c.in_ok-made.ensures.reach in
    put_more (time_each (operand_word c.requires) c.args.name.now) c.args.of.now c.loop-part.part-index c.part-item.result c.loop-part-test.true c.part-item.is c.loop-part.invariant made (c.in_ok-more.ensures (to_z w64 (of_z w64 c.args.period)) (can_put (operand_word c.requires).period_is c.loop-part.invariant made))

pub returns : goal.returns
returns c = finished_word _ _ _ _ _ c.requires.period_is c.some.result c.some.ensures.same c.some.ensures.some (times_dropped (operand_word c.requires) c.args.name.now (made_all (time_each (operand_word c.requires) c.args.name.now) c.args.of.now c.loop-part.part-index (let l : length c.args.of.now ≤ c.loop-part.part-index = omega (arith, c.loop-part-test.false) in l) c.loop-part.invariant))
