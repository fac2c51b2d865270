use Rattle.std.proofs.Common.{ap, ◌∙◌}
use Rattle.std.specs.Option.{is_some}
use Rattle.lrp_sorts.proofs.Heads.{one_column_faults}
use Rattle.lrp_sorts.proofs.Binding.{there_after}
use Rattle.lrp_sorts.proofs.head.short_fault.Goals as goal

pub loop-i-preserved : goal.loop-i-preserved
loop-i-preserved c =
    one_column_faults c.args.catalog.now c.args.columns.now c.loop-i.i c.index-columns-i.result c.loop-i.found _ c.binder_fault.result c.is_some-bound.result c.loop-i-test.true c.index-columns-i.is
    c.sooner_of-found.ensures c.binder_fault.ensures (c.is_some-bound.ensures ∙ there_after c.last_sort.result ∙ ap is_some c.last_sort.ensures) c.loop-i.invariant
