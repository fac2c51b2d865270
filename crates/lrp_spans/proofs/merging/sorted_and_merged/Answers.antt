-- The next span comes after the last, or joins it.
use Rattle.std.proofs.Common.{◌≡◌, ℕ, ◌<◌, ◌∷◌, ◌∙◌, inr, List, None, get_or, length, take, sym, subst, arith}
use Rattle.std.specs.Prelude.{AllPairs, Contains}
use Rattle.lrp_spans.specs.declared.spans.Span.{Span}
use Rattle.lrp_spans.specs.Spans.{AreMergedSpans, SpanComesNoLater}
use Rattle.lrp_spans.proofs.MergeLaws.{AreMerging, all_taken, before_next, begins_by, merged_permutation, merging_apart, merging_end, merging_joined, merging_start, more_taken, same_residue}
use Rattle.lrp_spans.proofs.SpanOrder.{spans_in_order}
use Rattle.lrp_spans.proofs.merging.sorted_and_merged.Goals.{then-is_before+in_ok-push, else-is_before}
use Rattle.lrp_spans.proofs.merging.sorted_and_merged.Goals as goal

-- the sorted list begins with the first span, and each earlier one is in order with the next
in_order : (items : List Span) (first : Span) (rest : List Span) → items ≡ first ∷ rest → AllPairs SpanComesNoLater items
    → (k : ℕ) → k < length rest → (u : Span) → Contains (first ∷ take k rest) u → SpanComesNoLater u (get_or rest k (record { residue = 0; first = None; last = None }))
in_order items first rest e all k l = before_next first rest k (record { residue = 0; first = None; last = None }) (subst (AllPairs SpanComesNoLater) e all) l

pub loop-next-init : goal.loop-next-init
loop-next-init c = rw c.new-made.ensures.items (merging_start c.in-Some.first.now)

pub joined-last-requires-clause-residue : goal.joined-last-requires-clause-residue
joined-last-requires-clause-residue c = same_residue _ c.loop-next.made.items c.loop-next.last _ c.loop-next.invariant
    (in_order c.sort_unstable.new.self.items c.in-Some.first.now c.in-Some.rest.now (sym c.deref.ensures.value ∙ c.in-Some.ensures.cases.0) (spans_in_order _ c.sort_unstable.ensures.sorted) c.loop-next.next-index c.loop-next-test.true)
    (λ a. cc (c.is_before.ensures.1 a, c.if-is_before.false))

pub joined-last-requires-clause-begins : goal.joined-last-requires-clause-begins
joined-last-requires-clause-begins c = begins_by _ c.loop-next.made.items c.loop-next.last _ c.loop-next.invariant
    (in_order c.sort_unstable.new.self.items c.in-Some.first.now c.in-Some.rest.now (sym c.deref.ensures.value ∙ c.in-Some.ensures.cases.0) (spans_in_order _ c.sort_unstable.ensures.sorted) c.loop-next.next-index c.loop-next-test.true)
    (λ a. cc (c.is_before.ensures.1 a, c.if-is_before.false))

pub joined-last-requires-clause-meets : goal.joined-last-requires-clause-meets
joined-last-requires-clause-meets c = λ b. (
    let same : c.loop-next.last.residue ≡ (get_or c.in-Some.rest.now c.loop-next.next-index (record { residue = 0; first = None; last = None })).residue =
    same_residue _ c.loop-next.made.items c.loop-next.last _ c.loop-next.invariant
    (in_order c.sort_unstable.new.self.items c.in-Some.first.now c.in-Some.rest.now (sym c.deref.ensures.value ∙ c.in-Some.ensures.cases.0) (spans_in_order _ c.sort_unstable.ensures.sorted) c.loop-next.next-index c.loop-next-test.true)
    (λ a. cc (c.is_before.ensures.1 a, c.if-is_before.false)) in
    cc (c.is_before.ensures.1 (inr (same, b)), c.if-is_before.false))

pub loop-next-preserved : goal.loop-next-preserved
loop-next-preserved c =
    let order = in_order c.sort_unstable.new.self.items c.in-Some.first.now c.in-Some.rest.now (sym c.deref.ensures.value ∙ c.in-Some.ensures.cases.0) (spans_in_order _ c.sort_unstable.ensures.sorted) c.loop-next.next-index c.loop-next-test.true in
    subst (λ l. AreMerging l c.if-is_before.made.items c.if-is_before.last) (sym (more_taken c.in-Some.first.now c.in-Some.rest.now c.loop-next.next-index (record { residue = 0; first = None; last = None }) c.loop-next-test.true)) (elim c.if-is_before.branch [
      | then-is_before+in_ok-push w ↦ rw (w.made-is, w.last-is, w.in_ok-push.ensures.items)
          (merging_apart _ c.loop-next.made.items c.loop-next.last _ c.loop-next.invariant order (c.is_before.ensures.0 w.if-is_before.true))
      | else-is_before w ↦ rw (w.made-is, w.last-is)
          (merging_joined _ c.loop-next.made.items c.loop-next.last _ c.loop-next.invariant order w.joined-last.result
          (same_residue _ c.loop-next.made.items c.loop-next.last _ c.loop-next.invariant order (λ a. cc (c.is_before.ensures.1 a, w.if-is_before.false))) w.joined-last.ensures)
    ])

pub returns : goal.returns
returns c =
    let e : c.sort_unstable.new.self.items ≡ c.in-Some.first.now ∷ c.in-Some.rest.now = sym c.deref.ensures.value ∙ c.in-Some.ensures.cases.0 in
    let all : c.loop-next.next-index ≡ length c.in-Some.rest.now = omega (arith, c.loop-next.auto.next-index-end, c.loop-next-test.false) in
    merged_permutation c.args.spans.items c.sort_unstable.new.self.items c.push-2.new.self.items c.sort_unstable.ensures.permutation
    (subst (λ l. AreMergedSpans l c.push-2.new.self.items) (all_taken c.in-Some.first.now c.in-Some.rest.now c.loop-next.next-index all ∙ sym e)
    (rw c.in_ok-push-2.ensures.items (merging_end _ c.loop-next.made.items c.loop-next.last c.loop-next.invariant)))
