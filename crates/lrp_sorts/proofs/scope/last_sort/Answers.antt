use Rattle.std.proofs.Common.{option_map}
use Rattle.lrp_sorts.proofs.Heads.{one_column_sort}
use Rattle.lrp_sorts.proofs.scope.last_sort.Goals as goal

pub loop-column-preserved : goal.loop-column-preserved
loop-column-preserved c =
    one_column_sort c.args.columns.now c.loop-column.column-index c.column-item.result c.args.name.now (option_map (λ s. s.now) c.loop-column.found) (option_map (λ s. s.now) c.sort_beside-found.result) c.loop-column-test.true c.column-item.is c.sort_beside-found.ensures c.loop-column.invariant
