use Rattle.std.proofs.Common.{sym}
use Rattle.lrp_limits.proofs.Greatest.{flat_map_step}
use Rattle.lrp_limits.proofs.Keeping.{keeps_more, keeps_as}
use Rattle.lrp_model.specs.Periods.{row_periods}
use Rattle.lrp_keep.proofs.states.with_all_periods.Goals as goal

pub loop-row-preserved : goal.loop-row-preserved
loop-row-preserved c =
    keeps_as _ _ _ _ (sym (flat_map_step row_periods c.as_slice-row-items.result.now c.loop-row.row-index c.row-item.result c.loop-row-test.true c.row-item.is))
    (keeps_more _ _ _ _ _ c.loop-row.invariant c.with_row-all.ensures)
