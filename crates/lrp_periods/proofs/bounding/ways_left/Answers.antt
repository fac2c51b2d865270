-- One window more is looked at.
use Rattle.std.proofs.Common.{◌-◌, ◌<◌, refl, arith}
use Rattle.lrp_periods.proofs.WindowLaws.{left_more, left_none}
use Rattle.lrp_periods.proofs.bounding.ways_left.Goals as goal

pub loop-turn-init : goal.loop-turn-init
loop-turn-init c = left_none c.args.zone.now c.args.ways c.args.ways c.args.column refl

pub loop-turn-preserved : goal.loop-turn-preserved
loop-turn-preserved c =
    left_more c.args.zone.now c.args.ways c.loop-turn.least c.fewer-least.result c.args.column (c.args.column - c.loop-turn.turn - 1) c.window.result
    (let low : c.loop-turn.turn < c.args.column = c.loop-turn-test.true in omega (arith, low)) c.window.ensures c.fewer-least.ensures c.loop-turn.invariant
