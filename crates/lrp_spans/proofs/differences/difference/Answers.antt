-- One more span, less the holes that do not come before it.
use Rattle.std.proofs.Common.{◌+◌, ◌^◌, None, get_or, subst, sym}
use Rattle.std.specs.Prelude.{Contains}
use Rattle.std.proofs.lemmas.List.Elements.{Contains-get_or}
use Rattle.lrp_spans.specs.Spans.{AppendsLeftSpans, AreOrdered}
use Rattle.lrp_spans.proofs.DifferenceLaws.{none_before, place_in, step_difference, still_before, suffix_ordered, to_end}
use Rattle.lrp_spans.proofs.differences.difference.Goals as goal

pub passed-next-requires-clause-before : goal.passed-next-requires-clause-before
passed-next-requires-clause-before c = c.loop-span.invariant.before _ (place_in c.args.spans.now c.loop-span.span-index (record { residue = 0; first = None; last = None }) c.loop-span-test.true)

pub push_left-requires-clause-span : goal.push_left-requires-clause-span
push_left-requires-clause-span c = c.requires.spans.each _ (Contains-get_or c.args.spans.now c.loop-span.span-index (record { residue = 0; first = None; last = None }) c.loop-span-test.true)

pub push_left-requires-clause-holes : goal.push_left-requires-clause-holes
push_left-requires-clause-holes c = subst (AreOrdered (2 ^ 62 + 1)) (sym (to_end c.args.holes.now c.passed-next.result)) (suffix_ordered (2 ^ 62 + 1) c.args.holes.now c.passed-next.result c.requires.holes)

pub push_left-requires-clause-after : goal.push_left-requires-clause-after
push_left-requires-clause-after c = λ h m.
    none_before (2 ^ 62 + 1) c.args.holes.now c.passed-next.result _ c.requires.holes
    (c.requires.spans.each _ (Contains-get_or c.args.spans.now c.loop-span.span-index (record { residue = 0; first = None; last = None }) c.loop-span-test.true))
    c.passed-next.ensures.place c.passed-next.ensures.stop h (subst (λ x. Contains x h) (to_end c.args.holes.now c.passed-next.result) m)

pub loop-span-preserved : goal.loop-span-preserved
loop-span-preserved c = record {
  place = c.passed-next.ensures.place;
  before = still_before (2 ^ 62 + 1) c.args.spans.now c.args.holes.now c.loop-span.span-index c.passed-next.result (record { residue = 0; first = None; last = None }) c.requires.spans c.requires.holes c.loop-span-test.true c.passed-next.ensures.before;
  done = step_difference (2 ^ 62 + 1) c.args.spans.now c.args.holes.now c.loop-span.span-index c.passed-next.result (record { residue = 0; first = None; last = None }) c.loop-span.made.items c.push_left.new.made.items c.requires.spans c.loop-span-test.true
      c.passed-next.ensures.before c.loop-span.invariant.done (subst (λ x. AppendsLeftSpans (2 ^ 62 + 1) (get_or c.args.spans.now c.loop-span.span-index (record { residue = 0; first = None; last = None })) x c.loop-span.made.items c.push_left.new.made.items) (to_end c.args.holes.now c.passed-next.result) c.in_ok-push_left.ensures);
}
