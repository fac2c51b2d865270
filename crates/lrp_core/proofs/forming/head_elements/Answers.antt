use Rattle.lrp_core.proofs.Members.{head_elements-step}
use Rattle.lrp_core.proofs.forming.head_elements.Goals as goal

pub loop-column-preserved : goal.loop-column-preserved
loop-column-preserved c =
    head_elements-step c.args.columns.now c.loop-column.all.items c.push_column.new.all.items c.loop-column.column-index c.column-item.result c.loop-column-test.true c.column-item.is c.loop-column.invariant c.in_ok-push_column.ensures
