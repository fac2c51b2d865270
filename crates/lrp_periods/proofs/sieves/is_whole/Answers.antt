-- One cell more is whole.
use Rattle.std.proofs.Common.{◌∙◌}
use Rattle.lrp_periods.proofs.Covers.{first_whole_all, first_whole_more, first_whole_none}
use Rattle.lrp_periods.proofs.sieves.is_whole.Goals as goal

pub loop-cell-init : goal.loop-cell-init
loop-cell-init c = first_whole_none c.args.store.now c.into_iter-cell-iterator.result (c.into_iter-cell-iterator.ensures.into_iter_gives ∙ c.cells-cell-items.ensures)

pub loop-cell-preserved : goal.loop-cell-preserved
loop-cell-preserved c = first_whole_more c.args.store.now c.loop-cell.cell-iterator c.next.new.self c.in-Some.cell c.in-Some.ensures.steps c.loop-cell.invariant (c.is_whole.ensures.first.0 c.if-not-is_whole.false)

pub returns : goal.returns
returns c = λ e. first_whole_all c.args.store.now c.loop-cell.cell-iterator c.in-None.ensures.steps.0 c.loop-cell.invariant
