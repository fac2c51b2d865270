-- Each turn puts one more bound at its new place.
use Rattle.std.proofs.Common.{arith}
use Rattle.lrp_zone.proofs.Placed.{spread_none, spread_more}
use Rattle.lrp_zone.proofs.columns.moved.Goals as goal

pub loop-i-init : goal.loop-i-init
loop-i-init c = spread_none c.args.places.now c.args.bounds.now c.free-out.result _ c.free-out.ensures

pub loop-j-preserved : goal.loop-j-preserved
loop-j-preserved c =
    spread_more c.args.places.now c.args.bounds.now c.loop-j.out c.put.new.bounds _ c.loop-i.i c.loop-j.j c.place.result c.place-in-loop-j.result c.at.result (omega arith) c.loop-i-test.true c.loop-j-test.true
    c.requires.places c.place.ensures c.place-in-loop-j.ensures c.at.ensures.value c.put.ensures.here c.put.ensures.others c.loop-j.invariant
