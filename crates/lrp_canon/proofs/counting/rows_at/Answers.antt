-- The numbers of the starts, and the residues below the step.
use Rattle.std.proofs.Common.{ℕ, ◌≡◌, ◌<◌, ◌≤◌, ◌+◌, ◌^◌, ◌∙◌, Some, ap, length, subst, sym, take}
use Rattle.std.specs.Prelude.{Contains, slice_get, sum_by}
use Rattle.lrp_spans.specs.declared.spans.Span.{Span}
use Rattle.lrp_spans.specs.Spans.{IsSpan}
use Rattle.lrp_canon.specs.Counting.{capped_count, turns_of}
use Rattle.lrp_canon.specs.Edges.{HasEnds}
use Rattle.lrp_canon.proofs.GroupCounts.{is_count}
use Rattle.lrp_canon.proofs.counting.rows_at.Goals as goal

pub open_below-requires : goal.open_below-requires
open_below-requires c = c.requires.ordered.apart

pub numbers_of-requires-clause-valid : goal.numbers_of-requires-clause-valid
numbers_of-requires-clause-valid c = subst (λ xs. (s : Span) → Contains xs s → IsSpan (2 ^ 62 + 2) s) (sym c.deref-2.ensures.value) c.in_ok-starts.ensures.each

pub numbers_of-requires-clause-ends : goal.numbers_of-requires-clause-ends
numbers_of-requires-clause-ends c = subst (λ xs. (s : Span) → Contains xs s → HasEnds s) (sym c.deref-2.ensures.value) c.in_ok-starts.ensures.ends

pub returns : goal.returns
returns c = is_count c.args.periods c.args.spans.now c.in_ok-starts.starts.items c.in_ok-open.open.items c.numbers_of.result c.count_below-endless.result c.saturating_add.result c.requires c.in_ok-starts.ensures c.in_ok-open.ensures
    (c.numbers_of.ensures ∙ ap (λ xs. capped_count (sum_by turns_of xs)) c.deref-2.ensures.value)
    (subst (λ xs. c.count_below-endless.result ≤ length xs) c.deref.ensures.value c.count_below-endless.ensures.place)
    (subst (λ xs. (r : ℕ) → Contains (take c.count_below-endless.result xs) r → r < c.args.periods.least) c.deref.ensures.value c.count_below-endless.ensures.below)
    (subst (λ xs. (r : ℕ) → slice_get xs c.count_below-endless.result ≡ Some r → c.args.periods.least ≤ r) c.deref.ensures.value c.count_below-endless.ensures.stop) c.saturating_add.ensures
