use Rattle.std.proofs.Common.{refl, ap, ◌∙◌, bytes_eq}
use Rattle.std.specs.Option.{is_some}
use Rattle.std.specs.HashMap.{get_by}
use Rattle.lrp_sorts.specs.Scopes.{kept_at}
use Rattle.lrp_sorts.proofs.Heads.{one_column_faults, one_column_kept}
use Rattle.lrp_sorts.proofs.Binding.{there_after}
use Rattle.lrp_sorts.proofs.head.open_long.Goals as goal

pub loop-column-preserved : goal.loop-column-preserved
loop-column-preserved c =
    let kept = c.loop-column.invariant in
    let one = c.column-item.result in
    record {
      fault =
          one_column_faults c.args.catalog.now c.args.columns.now c.loop-column.column-index one c.loop-column.found _ c.binder_fault.result c.contains_key-bound.result c.loop-column-test.true c.column-item.is
          c.sooner_of-found.ensures c.binder_fault.ensures
          (c.contains_key-bound.ensures
          ∙ there_after (get_by (λ k. bytes_eq c.as_bytes.result.now k.now) c.loop-column.sorts)
          ∙ ap is_some (ap (λ q. kept_at c.loop-column.sorts q) c.as_bytes.ensures ∙ kept.sorts one.name))
          kept.fault;
      sorts = one_column_kept c.as_bytes-in-loop-column.result _ c.loop-column.sorts c.insert.new.self c.args.columns.now c.loop-column.column-index one c.loop-column-test.true c.column-item.is c.as_bytes-in-loop-column.ensures refl c.in_ok-insert.ensures.updates kept.sorts;
    }
