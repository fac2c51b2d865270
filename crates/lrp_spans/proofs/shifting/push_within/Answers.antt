-- One more span, moved.
use Rattle.std.proofs.Common.{None, arith, ◌∙◌}
use Rattle.std.proofs.lemmas.List.Elements.{Contains-get_or}
use Rattle.lrp_spans.specs.Spans.{moved_within}
use Rattle.lrp_spans.proofs.Lists.{map_all, map_more}
use Rattle.lrp_spans.proofs.shifting.push_within.Goals as goal

pub overflow_add-span : goal.overflow_add-span
overflow_add-span c = omega (arith, c.requires _ (Contains-get_or c.args.spans.now c.loop-span.span-index (record { residue = 0; first = None; last = None }) c.loop-span-test.true))

pub loop-span-preserved : goal.loop-span-preserved
loop-span-preserved c = c.in_ok-push.ensures.items
    ∙ map_more (moved_within c.args.step) c.args.made.now.items c.loop-span.made.items c.args.spans.now c.loop-span.span-index (record { residue = 0; first = None; last = None }) c.loop-span-test.true c.loop-span.invariant

pub returns : goal.returns
returns c = map_all (moved_within c.args.step) c.args.made.now.items c.loop-span.made.items c.args.spans.now c.loop-span.span-index (omega (arith, c.loop-span-test.false)) c.loop-span.invariant
