-- The steps of cutting a span by a list of holes.
use Rattle.std.proofs.Common.{◌≡◌, ℕ, ◌+◌, ◌<◌, List, [], ◌∷◌, ◌++◌, append_assoc, append-nil, arith, ap, drop, get_or, length, subst, sym, take, ◌∙◌}
use Rattle.std.specs.Prelude.{ℤ, AllPairs, Contains}
use Rattle.std.proofs.Math.Seq.{take-length}
use Rattle.std.proofs.lemmas.List.{drop_all, drop_more, take-append-drop, take_more}
use Rattle.std.proofs.lemmas.List.Elements.{Contains-append_right}
use Rattle.lrp_theory.specs.Bounds.{Within}
use Rattle.lrp_spans.specs.declared.spans.Span.{Span}
use Rattle.lrp_spans.specs.Spans.{AppendsFronts, AppendsLeftSpans, AreOrdered, SpanComesBefore, IsSpanDifference, IsRest, IsSpan}
use Rattle.lrp_spans.proofs.CutLaws.{AreCut, cut_all, cut_break, cut_next, cut_start, cut_stop, same_residues}
use Rattle.lrp_spans.proofs.Lists.{head_in, pairs_head, pairs_right}

-- no hole is cut out yet
pub start_cut : (high : ℕ) (span : Span) (holes made : List Span) → IsSpan high span → ((h : Span) → Contains holes h → SpanComesBefore h span → ⊥)
    → (pieces : List Span) × (made ≡ made ++ pieces) × AreCut high span [] holes pieces span
start_cut high span holes made v after = ([], sym (append-nil made), cut_start high span holes v after)

-- all holes are cut out
pub end_cut : (high : ℕ) (span : Span) (holes : List Span) (i : ℕ) (old pieces made : List Span) (rest : Span) → i ≡ length holes → made ≡ old ++ pieces
    → AreCut high span (take i holes) (drop i holes) pieces rest → AppendsLeftSpans high span holes old (made ++ rest ∷ [])
end_cut high span holes i old pieces made rest e is c = record {
  left = pieces ++ rest ∷ [];
  is = ap (λ l. l ++ rest ∷ []) is ∙ append_assoc old pieces (rest ∷ []);
  difference = cut_all high span holes pieces rest (subst (λ d. AreCut high span d [] pieces rest) taken (subst (λ d. AreCut high span (take i holes) d pieces rest) dropped c));
}
  where
    taken : take i holes ≡ holes
    taken = rw e (take-length holes)

    dropped : drop i holes ≡ []
    dropped = drop_all i holes (omega (arith, e))

module _ (high : ℕ) (span : Span) (holes : List Span) (ordered : AreOrdered high holes) (i : ℕ) (d : Span) (l : i < length holes) where
  left_is : drop i holes ≡ get_or holes i d ∷ drop (i + 1) holes
  left_is = drop_more holes i d l

  whole : take i holes ++ get_or holes i d ∷ drop (i + 1) holes ≡ holes
  whole = ap (λ x. take i holes ++ x) (sym left_is) ∙ take-append-drop i holes

  all : (h : Span) → Contains (get_or holes i d ∷ drop (i + 1) holes) h → IsSpan high h
  all h m = ordered.each h (subst (λ x. Contains x h) whole (Contains-append_right (take i holes) (get_or holes i d ∷ drop (i + 1) holes) h m))

  order : (h : Span) → Contains (drop (i + 1) holes) h → SpanComesBefore (get_or holes i d) h
  order = pairs_head SpanComesBefore (get_or holes i d) (drop (i + 1) holes)
      (pairs_right SpanComesBefore (take i holes) (get_or holes i d ∷ drop (i + 1) holes) (subst (AllPairs SpanComesBefore) (sym whole) ordered.apart))

  hole_in : Contains (get_or holes i d ∷ drop (i + 1) holes) (get_or holes i d)
  hole_in = head_in (get_or holes i d) (drop (i + 1) holes)

  pub hole_span : IsSpan high (get_or holes i d)
  hole_span = all (get_or holes i d) hole_in

  module _ (pieces : List Span) (rest : Span) (c : AreCut high span (take i holes) (drop i holes) pieces rest) where
    at : AreCut high span (take i holes) (get_or holes i d ∷ drop (i + 1) holes) pieces rest
    at = subst (λ x. AreCut high span (take i holes) x pieces rest) left_is c

    pub hole_after : SpanComesBefore (get_or holes i d) rest → ⊥
    hole_after = at.afterwards (get_or holes i d) hole_in

    -- the rest comes before the hole
    pub break_cut : (old made : List Span) → made ≡ old ++ pieces → SpanComesBefore rest (get_or holes i d) → AppendsLeftSpans high span holes old (made ++ rest ∷ [])
    break_cut old made is b = record {
      left = pieces ++ rest ∷ [];
      is = ap (λ x. x ++ rest ∷ []) is ∙ append_assoc old pieces (rest ∷ []);
      difference = subst (λ x. IsSpanDifference high (span ∷ []) x (pieces ++ rest ∷ [])) whole (cut_break high span (take i holes) (get_or holes i d) (drop (i + 1) holes) pieces rest at all order b);
    }

    module _ (ahead : SpanComesBefore rest (get_or holes i d) → ⊥) where
      same : rest.residue ≡ (get_or holes i d).residue
      same = same_residues rest (get_or holes i d) ahead hole_after

      -- nothing is left after the hole
      pub stop_cut : (old made new : List Span) → made ≡ old ++ pieces → AppendsFronts high rest (get_or holes i d) made new → ((n : ℤ) → Within n rest.last → Within n (get_or holes i d).last) → AppendsLeftSpans high span holes old new
      stop_cut old made new is f none = record {
        left = pieces ++ f.fronts;
        is = f.is ∙ ap (λ x. x ++ f.fronts) is ∙ append_assoc old pieces f.fronts;
        difference = subst (λ x. IsSpanDifference high (span ∷ []) x (pieces ++ f.fronts)) whole (cut_stop high span (take i holes) (get_or holes i d) (drop (i + 1) holes) pieces rest at all order same f.fronts f.fit none);
      }

      -- one more hole is cut out
      pub next_cut : (old made new : List Span) (next : Span) → made ≡ old ++ pieces → AppendsFronts high rest (get_or holes i d) made new → IsRest rest (get_or holes i d) next
          → (more : List Span) × (new ≡ old ++ more) × AreCut high span (take (i + 1) holes) (drop (i + 1) holes) more next
      next_cut old made new next is f re = (
        pieces ++ f.fronts,
        f.is ∙ ap (λ x. x ++ f.fronts) is ∙ append_assoc old pieces f.fronts,
        subst (λ x. AreCut high span x (drop (i + 1) holes) (pieces ++ f.fronts) next) (sym (take_more holes i d l))
            (cut_next high span (take i holes) (get_or holes i d) (drop (i + 1) holes) pieces rest at all order same f.fronts f.fit next re hole_after),
      )
