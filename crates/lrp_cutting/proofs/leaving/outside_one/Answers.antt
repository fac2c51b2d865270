-- The cutter in the middle reaches no farther than all.
use Rattle.std.proofs.Common.{◌+◌, ◌≤◌, ◌^◌, arith}
use Rattle.lrp_zone.specs.Zones.{reach_of}
use Rattle.lrp_cutting.specs.Differences.{greatest_reach}
use Rattle.lrp_cutting.proofs.Lists.{if_ok, reach_below}
use Rattle.lrp_cutting.proofs.leaving.outside_one.Goals as goal

pub outside-requires-clause-cell : goal.outside-requires-clause-cell
outside-requires-clause-cell c = c.requires.cell.each c.middle.result.now c.middle.ensures

pub outside-requires-clause-reach : goal.outside-requires-clause-reach
outside-requires-clause-reach c =
    let low : reach_of c.middle.result.now ≤ greatest_reach c.args.cutters.now = reach_below c.args.cutters.now c.middle.result.now c.middle.ensures in
    let room : greatest_reach c.args.cutters.now + c.args.part.now.period ≤ 2 ^ 62 = c.requires.reach in
    omega arith

pub returns : goal.returns
returns c = if_ok _ _ c.outside.result (λ sides left. record { cutter = c.middle.result.now; listed = c.middle.ensures; left = left }) c.outside.ensures
