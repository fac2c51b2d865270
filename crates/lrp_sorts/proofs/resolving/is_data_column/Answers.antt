use Rattle.lrp_sorts.proofs.NameSorts.{told_more}
use Rattle.lrp_sorts.proofs.resolving.is_data_column.Goals as goal

pub loop-column-preserved : goal.loop-column-preserved
loop-column-preserved c =
    told_more c.args.columns.now c.loop-column.column-index c.column-item.result c.args.name.now c.loop-column.is_data c.is_data_beside-is_data.result c.loop-column-test.true c.column-item.is c.loop-column.invariant c.is_data_beside-is_data.ensures
