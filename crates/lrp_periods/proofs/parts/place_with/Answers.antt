-- The part at the place has the period.
use Rattle.lrp_periods.proofs.PartLaws.{found_place}
use Rattle.lrp_periods.proofs.parts.place_with.Goals as goal

pub returns-then-is_same : goal.returns-then-is_same
returns-then-is_same c = found_place c.args.parts.now c.args.table.now c.loop-place.place c.index-parts-place.result c.loop-place-test.true c.index-parts-place.is c.shape-in-loop-place.ensures.valid c.shape.ensures.valid c.period.ensures c.period-in-loop-place.ensures (c.is_same.ensures c.if-is_same.true)
