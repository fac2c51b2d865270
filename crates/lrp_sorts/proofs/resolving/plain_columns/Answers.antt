use Rattle.std.proofs.Common.{◌∙◌}
use Rattle.lrp_model.specs.DatabaseMeaning.{column_of}
use Rattle.lrp_sorts.proofs.Mapped.{one_mapped}
use Rattle.lrp_sorts.proofs.resolving.plain_columns.Goals as goal

pub loop-column-preserved : goal.loop-column-preserved
loop-column-preserved c =
    c.in_ok-push.ensures.ok ∙ one_mapped column_of c.args.columns.now c.loop-column.column-index c.column-item.result c.loop-column.made _ c.loop-column-test.true c.column-item.is c.loop-column.invariant c.in_ok-plain_column.ensures
