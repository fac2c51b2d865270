-- The span of one more zone.
use Rattle.lrp_spans.proofs.GroupLaws.{appending_end, appending_more, appending_none, left_zone}
use Rattle.lrp_spans.proofs.groups.push_spans.Goals as goal

pub loop-zone-init : goal.loop-zone-init
loop-zone-init c = appending_none c.args.group.now c.args.zones c.into_iter-zone-iterator.result c.args.groups.now.lists c.into_iter-zone-iterator.ensures.into_iter_gives

pub span_of-requires-clause-valid : goal.span_of-requires-clause-valid
span_of-requires-clause-valid c = (c.requires c.in-Some.zone (left_zone c.args.group.now c.args.zones c.loop-zone.zone-iterator c.in-Some.zone c.next.new.self c.in-Some.ensures.steps c.args.groups.now.lists c.loop-zone.groups.lists c.loop-zone.invariant)).0

pub span_of-requires-clause-column : goal.span_of-requires-clause-column
span_of-requires-clause-column c = (c.requires c.in-Some.zone (left_zone c.args.group.now c.args.zones c.loop-zone.zone-iterator c.in-Some.zone c.next.new.self c.in-Some.ensures.steps c.args.groups.now.lists c.loop-zone.groups.lists c.loop-zone.invariant)).1

pub loop-zone-preserved : goal.loop-zone-preserved
loop-zone-preserved c = appending_more c.args.group.now c.args.zones c.loop-zone.zone-iterator c.in-Some.zone c.next.new.self c.in-Some.ensures.steps c.span_of.result c.span_of.ensures c.args.groups.now.lists c.loop-zone.groups.lists c.append.new.self.lists c.in_ok-append.ensures.ok c.loop-zone.invariant

pub returns : goal.returns
returns c = appending_end c.args.group.now c.args.zones c.loop-zone.zone-iterator c.args.groups.now.lists c.loop-zone.groups.lists c.in-None.ensures.steps.0 c.loop-zone.invariant
