-- The residues of one column more are counted.
use Rattle.std.proofs.Common.{arith, refl}
use Rattle.lrp_periods.proofs.WindowLaws.{ways_more, ways_none}
use Rattle.lrp_periods.proofs.bounding.cells_of_zone.Goals as goal

pub loop-turn-init : goal.loop-turn-init
loop-turn-init c = ways_none c.args.zone.now c.args.ways 1 0 refl refl

pub loop-turn-preserved : goal.loop-turn-preserved
loop-turn-preserved c = ways_more c.args.zone.now c.args.ways c.loop-turn.count c.ways_left.result c.in-Some.product c.loop-turn.turn _ (omega arith) c.loop-turn.invariant c.ways_left.ensures c.in-Some.ensures.0
