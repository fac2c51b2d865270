-- The spans of one more cell.
use Rattle.std.proofs.Common.{◌∙◌}
use Rattle.lrp_spans.proofs.GroupLaws.{entry_columns, gathering_end, gathering_more, gathering_none}
use Rattle.lrp_spans.proofs.groups.groups_of.Goals as goal

pub loop-cell-init : goal.loop-cell-init
loop-cell-init c = gathering_none c.args.store.now c.into_iter-cell-iterator.result c.new-groups.result.lists (c.into_iter-cell-iterator.ensures.into_iter_gives ∙ c.entries-cell-items.ensures.value) c.new-groups.ensures.lists

pub push_spans-requires : goal.push_spans-requires
push_spans-requires c = entry_columns c.args.store.now c.entries-cell-items.ensures.valid c.requires c.in-Some.cell c.in-Some.zones c.next.new.self c.loop-cell.cell-iterator c.loop-cell.groups.lists c.in-Some.ensures.steps c.loop-cell.invariant

pub loop-cell-preserved : goal.loop-cell-preserved
loop-cell-preserved c = gathering_more c.args.store.now c.in-Some.cell c.in-Some.zones c.next.new.self c.loop-cell.cell-iterator c.in-Some.ensures.steps c.group_of.result c.group_of.ensures c.loop-cell.groups.lists c.push_spans.new.groups.lists c.in_ok-push_spans.ensures c.loop-cell.invariant

pub returns-clause-groups : goal.returns-clause-groups
returns-clause-groups c = gathering_end c.args.store.now c.loop-cell.cell-iterator c.loop-cell.groups.lists c.in-None.ensures.steps.0 c.loop-cell.invariant
