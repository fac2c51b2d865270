-- One more span, moved.
use Rattle.std.proofs.Common.{None, ap, arith, ◌∙◌, ◌++◌, ◌∷◌, []}
use Rattle.std.proofs.lemmas.List.Elements.{Contains-get_or}
use Rattle.lrp_spans.specs.Spans.{moved_past}
use Rattle.lrp_spans.proofs.Lists.{map_all, map_more}
use Rattle.lrp_spans.proofs.shifting.push_past.Goals as goal

pub past-requires-clause-span : goal.past-requires-clause-span
past-requires-clause-span c = c.requires.spans _ (Contains-get_or c.args.spans.now c.loop-span.span-index (record { residue = 0; first = None; last = None }) c.loop-span-test.true)

pub past-requires-clause-below : goal.past-requires-clause-below
past-requires-clause-below c = c.requires.below _ (Contains-get_or c.args.spans.now c.loop-span.span-index (record { residue = 0; first = None; last = None }) c.loop-span-test.true)

pub past-requires-clause-past : goal.past-requires-clause-past
past-requires-clause-past c = c.requires.past _ (Contains-get_or c.args.spans.now c.loop-span.span-index (record { residue = 0; first = None; last = None }) c.loop-span-test.true)

pub loop-span-preserved : goal.loop-span-preserved
loop-span-preserved c = c.in_ok-push.ensures.items ∙ ap (λ x. c.loop-span.made.items ++ x ∷ []) c.past.ensures
    ∙ map_more (moved_past c.args.period c.args.step) c.args.made.now.items c.loop-span.made.items c.args.spans.now c.loop-span.span-index (record { residue = 0; first = None; last = None }) c.loop-span-test.true c.loop-span.invariant

pub returns : goal.returns
returns c = map_all (moved_past c.args.period c.args.step) c.args.made.now.items c.loop-span.made.items c.args.spans.now c.loop-span.span-index (omega (arith, c.loop-span-test.false)) c.loop-span.invariant
