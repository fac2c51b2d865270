-- What comes into the next turn, and after it what stays in its turn.
use Rattle.std.proofs.Common.{◌^◌, ◌-◌, ◌++◌, map, drop, length, take, ap, arith, subst, sym, ◌∙◌}
use Rattle.std.specs.Prelude.{Contains}
use Rattle.lrp_spans.specs.Spans.{AreShifted, moved_past, moved_within}
use Rattle.lrp_spans.proofs.DifferenceLaws.{to_end}
use Rattle.lrp_spans.proofs.Lists.{in_back}
use Rattle.lrp_spans.proofs.ShiftLaws.{all_shifted, none_below}
use Rattle.lrp_spans.proofs.shifting.shifted.Goals as goal

pub push_past-requires-clause-spans : goal.push_past-requires-clause-spans
push_past-requires-clause-spans c = λ s l. c.requires.spans.each s (in_back c.args.spans.now c.count_below-place.result s (subst (λ x. Contains x s) (to_end c.args.spans.now c.count_below-place.result) l))

pub push_past-requires-clause-below : goal.push_past-requires-clause-below
push_past-requires-clause-below c = λ s l. c.requires.below s (in_back c.args.spans.now c.count_below-place.result s (subst (λ x. Contains x s) (to_end c.args.spans.now c.count_below-place.result) l))

pub push_past-requires-clause-past : goal.push_past-requires-clause-past
push_past-requires-clause-past c = λ s l.
    omega (arith, c.requires.step, none_below (2 ^ 62) c.args.spans.now c.count_below-place.result (c.args.period - c.args.step) c.requires.spans c.count_below-place.ensures.stop s (subst (λ x. Contains x s) (to_end c.args.spans.now c.count_below-place.result) l))

pub returns : goal.returns
returns c = subst (AreShifted (2 ^ 62) c.args.period c.args.step c.args.spans.now)
    (sym (c.in_ok-push_within.ensures ∙ ap (λ x. x ++ map (moved_within c.args.step) (take c.count_below-place.result c.args.spans.now))
    (c.in_ok-push_past.ensures ∙ ap (λ x. x ++ map (moved_past c.args.period c.args.step) (take (length c.args.spans.now - c.count_below-place.result) (drop c.count_below-place.result c.args.spans.now))) c.new-made.ensures.items
    ∙ ap (map (moved_past c.args.period c.args.step)) (to_end c.args.spans.now c.count_below-place.result))))
    (all_shifted (2 ^ 62) c.args.period c.args.step c.args.spans.now c.count_below-place.result c.requires.spans c.requires.below c.requires.step c.count_below-place.ensures.below
    (none_below (2 ^ 62) c.args.spans.now c.count_below-place.result (c.args.period - c.args.step) c.requires.spans c.count_below-place.ensures.stop))
