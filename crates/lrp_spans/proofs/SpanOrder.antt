-- Sorted spans are in order.
use Rattle.std.proofs.Common.{◌≡◌, ℕ, zero, suc, ◌+◌, ◌<◌, inl, inr, List, false, Ordering, Less, Equal, Greater, length, get_or, arith, refl, sym, subst, ◌∙◌}
use Rattle.std.specs.Prelude.{AllPairs}
use Rattle.std.specs.List.Sorted.{IsSorted}
use Rattle.std.specs.Option.{option_cmp}
use Rattle.std.specs.Ordering.{int_cmp, nat_cmp, is_lt, ordering_then, MatchOrdering}
use Rattle.std.specs.Cmp.{ranks}
use Rattle.lrp_spans.specs.declared.spans.Span.{Span}
use Rattle.lrp_spans.specs.Spans.{SpanComesNoLater}
use Rattle.lrp_spans.proofs.Lists.{below_or}
use Rattle.lrp_matrix.proofs.Ends.{not_before}

rank : (v w : Span) (o : Ordering) → nat_cmp w.residue v.residue ≡ o → MatchOrdering o (w.residue < v.residue) (w.residue ≡ v.residue) (v.residue < w.residue)
rank v w o e = subst (λ p. MatchOrdering p (w.residue < v.residue) (w.residue ≡ v.residue) (v.residue < w.residue)) e (ranks w.residue v.residue)

-- by the residues first
by_residues : (v w : Span) (o : Ordering) (q : Ordering) → nat_cmp w.residue v.residue ≡ o → is_lt (ordering_then o (ordering_then (option_cmp int_cmp w.first v.first) q)) ≡ false → SpanComesNoLater v w
by_residues v w Less q e h = absurd (cc)
by_residues v w Equal q e h = inr (sym (rank v w Equal e), record { each = not_before v.first w.first q h })
by_residues v w Greater q e h = inl (rank v w Greater e)

order_trans : (u v w : Span) → SpanComesNoLater u v → SpanComesNoLater v w → SpanComesNoLater u w
order_trans u v w (inl a) (inl b) = inl (omega arith)
order_trans u v w (inl a) (inr b) = inl (let e : v.residue ≡ w.residue = b.0 in omega arith)
order_trans u v w (inr a) (inl b) = inl (let e : u.residue ≡ v.residue = a.0 in omega arith)
order_trans u v w (inr a) (inr b) = inr (a.0 ∙ b.0, record { each = λ n h. a.1.each n (b.1.each n h) })

pairs_by_steps : (vs : List Span) → ((k : ℕ) (d : Span) → k + 1 < length vs → SpanComesNoLater (get_or vs k d) (get_or vs (k + 1) d)) → AllPairs SpanComesNoLater vs
pairs_by_steps vs step i zero d l h = absurd (omega arith)
pairs_by_steps vs step i (suc j) d l h =
    let on : j + 1 ≡ suc j = omega arith in
    let s : SpanComesNoLater (get_or vs j d) (get_or vs (suc j) d) = subst (λ n. SpanComesNoLater (get_or vs j d) (get_or vs n d)) on (step j d (omega arith)) in
    elim (below_or i j) [
      | inl lt ↦ order_trans _ _ _ (pairs_by_steps vs step i j d lt (omega arith)) s
      | inr le ↦ (let same : j ≡ i = omega arith in subst (λ n. SpanComesNoLater (get_or vs n d) (get_or vs (suc j) d)) same s)
    ]

-- sorted spans are in order
pub spans_in_order : (vs : List Span) → IsSorted (λ v w. ordering_then (nat_cmp v.residue w.residue) (ordering_then (option_cmp int_cmp v.first w.first) (option_cmp int_cmp v.last w.last))) vs → AllPairs SpanComesNoLater vs
spans_in_order vs sorted = pairs_by_steps vs (λ k d l. by_residues (get_or vs k d) (get_or vs (k + 1) d) _ _ refl (sorted k d (omega arith) l))
