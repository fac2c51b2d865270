use Rattle.lrp_holdings.proofs.Holding.{more_room, room_for_one_more}
use Rattle.lrp_holdings.proofs.chains.make_room.Goals as goal

pub loop-number-preserved : goal.loop-number-preserved
loop-number-preserved c = record {
  room = room_for_one_more c.args.numbers.now c.loop-number.number-index 0 c.loop-number.chains.items c.make_room_for.new.chains.items c.loop-number-test.true c.loop-number.invariant.room c.make_room_for.ensures.same c.in_ok-make_room_for.ensures.room;
  same = more_room c.args.chains.now.items c.loop-number.chains.items c.make_room_for.new.chains.items c.loop-number.invariant.same c.make_room_for.ensures.same;
}
