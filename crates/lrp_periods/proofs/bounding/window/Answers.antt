-- The bounds from both sides.
use Rattle.std.proofs.Common.{SFits, rules}
use Rattle.std.specs.Int.{w64}
use Rattle.lrp_periods.proofs.WindowLaws.{period_is, width_is, window_is}
use Rattle.lrp_periods.proofs.bounding.window.Goals as goal

pub returns : goal.returns
returns c =
    let above : SFits w64 c.in_ok-above.above = search rules in
    let below : SFits w64 c.in_ok-below.below = search rules in
    window_is c.args.zone.now c.args.column c.args.other c.in_ok-above.above c.in_ok-below.below _ _ c.in_ok-above.ensures c.in_ok-below.ensures c.steps_within.result c.steps_within.ensures
    (width_is c.in_ok-above.above c.in_ok-below.below _ above below c.width_of.ensures)
    (period_is c.args.zone.now c.columns.ensures.valid c.period.result c.period.ensures)
