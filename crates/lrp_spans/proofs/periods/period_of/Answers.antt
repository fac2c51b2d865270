-- One more group.
use Rattle.std.proofs.Common.{◌^◌, ◌∙◌, subst, sym}
use Rattle.lrp_slots.specs.Lists.{list_at}
use Rattle.lrp_spans.specs.Periods.{IsWithEnds}
use Rattle.lrp_spans.specs.Spans.{HaveResiduesBelow, AreOrdered}
use Rattle.lrp_spans.proofs.EndSteps.{begun_end, begun_more, begun_none, merged_ordered}
use Rattle.lrp_spans.proofs.GroupLaws.{merged_below}
use Rattle.lrp_spans.proofs.periods.period_of.Goals as goal

pub loop-group-init : goal.loop-group-init
loop-group-init c = begun_none c.args.period c.args.groups.now.lists c.into_iter-group-iterator.result (c.into_iter-group-iterator.ensures.into_iter_gives ∙ c.cells-group-items.ensures.cells)

pub with_ends-requires-clause-spans : goal.with_ends-requires-clause-spans
with_ends-requires-clause-spans c = subst (AreOrdered (2 ^ 62)) (sym c.deref.ensures.value) (merged_ordered (2 ^ 62) (list_at c.args.groups.now.lists c.in-Some.group) c.in_ok-spans.spans.items c.in_ok-spans.ensures (c.requires.spans.each c.in-Some.group))

pub with_ends-requires-clause-below : goal.with_ends-requires-clause-below
with_ends-requires-clause-below c = subst (HaveResiduesBelow c.args.period) (sym c.deref.ensures.value) (merged_below c.args.period (2 ^ 62) (list_at c.args.groups.now.lists c.in-Some.group) c.in_ok-spans.spans.items c.in_ok-spans.ensures (c.requires.spans.each c.in-Some.group) (c.requires.spans.below c.in-Some.group))

pub loop-group-preserved : goal.loop-group-preserved
loop-group-preserved c = begun_more c.args.period c.args.groups.now.lists c.in-Some.group c.next.new.self c.loop-group.group-iterator c.in_ok-spans.spans.items c.loop-group.least c.in_ok-least.least c.in-Some.ensures.steps c.in_ok-spans.ensures
    (subst (λ l. IsWithEnds c.args.period l c.loop-group.least c.in_ok-least.least) c.deref.ensures.value c.in_ok-least.ensures) c.loop-group.invariant

pub returns : goal.returns
returns c = begun_end c.args.period c.args.groups.now.lists c.loop-group.group-iterator c.loop-group.least c.in-None.ensures.steps.0 c.loop-group.invariant
