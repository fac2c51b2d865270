-- One more span.
use Rattle.std.proofs.Common.{◌∙◌, ◌++◌, ◌∷◌, [], ap, append-nil, append_assoc, subst, sym}
use Rattle.std.specs.Prelude.{IfOk}
use Rattle.lrp_spans.specs.Spans.{AreMergedSpans}
use Rattle.lrp_spans.proofs.groups.spans_at.Goals as goal

pub loop-span-preserved : goal.loop-span-preserved
loop-span-preserved c = ap (λ x. x ++ c.next.new.self) c.in_ok-push.ensures.items ∙ append_assoc c.loop-span.spans.items (c.in-Some.span.now ∷ []) c.next.new.self
    ∙ ap (λ x. c.loop-span.spans.items ++ x) (sym c.in-Some.ensures.steps) ∙ c.loop-span.invariant

pub returns : goal.returns
returns c = subst (λ l. IfOk c.merged.result (λ made. AreMergedSpans l made.items))
    (sym (append-nil c.loop-span.spans.items) ∙ ap (λ x. c.loop-span.spans.items ++ x) (sym c.in-None.ensures.steps.0) ∙ c.loop-span.invariant) c.merged.ensures
