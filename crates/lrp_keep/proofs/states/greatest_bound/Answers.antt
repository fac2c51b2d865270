use Rattle.std.proofs.Common.{arith}
use Rattle.lrp_limits.proofs.Greatest.{greatest_map_step}
use Rattle.lrp_kept.specs.Limits.{row_bound}
use Rattle.lrp_keep.proofs.states.greatest_bound.Goals as goal

pub loop-row-preserved : goal.loop-row-preserved
loop-row-preserved c =
    let e = greatest_map_step row_bound c.as_slice-row-items.result.now c.loop-row.row-index c.row-item.result c.loop-row-test.true c.row-item.is in
    omega (arith, e, c.with_bounds-most.ensures, c.loop-row.invariant)
