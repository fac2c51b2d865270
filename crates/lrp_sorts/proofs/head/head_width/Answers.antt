use Rattle.std.proofs.Common.{◌+◌, ◌∙◌, ap}
use Rattle.lrp_model.specs.Sorts.{is_time}
use Rattle.lrp_model.specs.Sorting.{query_fault}
use Rattle.lrp_model.specs.declared.faults.QueryKind.TheVariants.{Wide}
use Rattle.lrp_sorts.proofs.Heads.{ninth_step, counted_once}
use Rattle.lrp_sorts.proofs.head.head_width.Goals as goal

pub loop-column-preserved : goal.loop-column-preserved
loop-column-preserved c =
    let kept = c.loop-column.invariant in
    let one = c.column-item.result in
    record {
      same = ninth_step (query_fault Wide) c.loop-column.before c.and-before.result c.args.columns.now c.loop-column.column-index one c.loop-column.found _ c.fault_where.result _ c.is_full-full.result c.loop-column-test.true c.column-item.is c.sooner_of-found.ensures c.fault_where.ensures c.is_full-full.ensures c.and-before.ensures kept.same;
      seen = ap (λ b. b.times + b.texts) c.and-before.ensures ∙ counted_once (is_time one.sort) c.loop-column.before ∙ ap (λ n. n + 1) kept.seen;
    }
