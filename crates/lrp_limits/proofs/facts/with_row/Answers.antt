use Rattle.std.proofs.Common.{sym}
use Rattle.lrp_model.specs.Periods.{value_periods}
use Rattle.lrp_limits.proofs.Greatest.{flat_map_step}
use Rattle.lrp_limits.proofs.Keeping.{keeps_more, keeps_as}
use Rattle.lrp_limits.proofs.facts.with_row.Goals as goal

pub loop-value-preserved : goal.loop-value-preserved
loop-value-preserved c =
    keeps_as _ _ _ _ (sym (flat_map_step value_periods c.as_slice-value-items.result.now c.loop-value.value-index c.value-item.result c.loop-value-test.true c.value-item.is))
    (keeps_more _ _ _ _ _ c.loop-value.invariant c.with_value-all.ensures)
