-- Spans less holes, span by span.
use Rattle.std.proofs.Common.{◌≡◌, ℕ, ◌+◌, ◌-◌, ◌<◌, ◌≤◌, inl, inr, List, [], ◌∷◌, ◌++◌, Some, arith, ap, drop, get_or, length, subst, sym, take, ◌∙◌}
use Rattle.std.specs.Prelude.{ℤ, ◌<ℤ◌, AllPairs, Contains, slice_get}
use Rattle.std.proofs.lemmas.List.{drop_all, drop_more, get_or_default, take-append-drop, take_more}
use Rattle.std.proofs.lemmas.List.Elements.{Contains-append_cases, Contains-append_left, Contains-append_right, Contains-get_or}
use Rattle.std.proofs.lemmas.Option.{slice_get-get_or}
use Rattle.std.proofs.lemmas.Slice.{between_to_end}
use Rattle.lrp_spans.specs.declared.spans.Span.{Span}
use Rattle.lrp_spans.specs.Spans.{AppendsLeftSpans, AreBefore, AreOrdered, SpanComesBefore, HasTurn, InSpans, IsSpanDifference, IsSpan}
use Rattle.lrp_spans.proofs.CutLaws.{apart_turns, before_trans, below_ends, ends_below, own}
use Rattle.lrp_spans.proofs.Lists.{before, below_or, head_in, in_none, in_one, pairs_append, pairs_head, pairs_right}
use Rattle.lrp_spans.proofs.MergeLaws.{in_left, in_right, in_either, this_has}

-- the list from a place on
split_at : (xs : List Span) (i : ℕ) (d : Span) → i < length xs → take i xs ++ get_or xs i d ∷ drop (i + 1) xs ≡ xs
split_at xs i d l = ap (λ x. take i xs ++ x) (sym (drop_more xs i d l)) ∙ take-append-drop i xs

-- what is before a place comes before what stands there, and that before what stands after it
pub before_place : (xs : List Span) (i : ℕ) (d : Span) → i < length xs → AllPairs SpanComesBefore xs → AreBefore (take i xs) (get_or xs i d)
before_place xs i d l all v h = before SpanComesBefore xs i (get_or xs i d) all l (get_or_default xs i d (get_or xs i d) l) v h

pub place_before : (xs : List Span) (i : ℕ) (d : Span) → i < length xs → AllPairs SpanComesBefore xs → (v : Span) → Contains (drop (i + 1) xs) v → SpanComesBefore (get_or xs i d) v
place_before xs i d l all = pairs_head SpanComesBefore (get_or xs i d) (drop (i + 1) xs)
    (pairs_right SpanComesBefore (take i xs) (get_or xs i d ∷ drop (i + 1) xs) (subst (AllPairs SpanComesBefore) (sym (split_at xs i d l)) all))

-- the spans from a place on are in order too
pub suffix_ordered : (high : ℕ) (xs : List Span) (i : ℕ) → AreOrdered high xs → AreOrdered high (drop i xs)
suffix_ordered high xs i o = record {
  each = λ s l. o.each s (subst (λ x. Contains x s) (take-append-drop i xs) (Contains-append_right (take i xs) (drop i xs) s l));
  apart = pairs_right SpanComesBefore (take i xs) (drop i xs) (subst (AllPairs SpanComesBefore) (sym (take-append-drop i xs)) o.apart);
}

-- where the first hole from a place on does not come before the span, no later one does
pub none_before : (high : ℕ) (holes : List Span) (i : ℕ) (span : Span) → AreOrdered high holes → IsSpan high span → i ≤ length holes
    → ((hole : Span) → slice_get holes i ≡ Some hole → SpanComesBefore hole span → ⊥) → (h : Span) → Contains (drop i holes) h → SpanComesBefore h span → ⊥
none_before high holes i span o v low stop h m b = elim (below_or i (length holes)) [
  | inr l ↦ in_none h (subst (λ x. Contains x h) (drop_all i holes l) m)
  | inl l ↦ elim (Contains-append_cases (get_or holes i h ∷ []) (drop (i + 1) holes) h (subst (λ x. Contains x h) (drop_more holes i h l) m)) [
    | inl a ↦ stop h (slice_get-get_or holes i h l ∙ ap Some (in_one (get_or holes i h) h a)) b
    | inr a ↦ stop (get_or holes i h) (slice_get-get_or holes i h l)
        (before_trans high (get_or holes i h) h span (o.each _ (Contains-get_or holes i h l)) (o.each h (subst (λ x. Contains x h) (take-append-drop i holes) (Contains-append_right (take i holes) (drop i holes) h m))) v
        (place_before holes i h l o.apart h a) b)
  ]
]

-- holes before a span take nothing from it
pub passed_holes : (high : ℕ) (span : Span) (holes left : List Span) (i : ℕ) → AreBefore (take i holes) span → IsSpanDifference high (span ∷ []) (drop i holes) left → IsSpanDifference high (span ∷ []) holes left
passed_holes high span holes left i b d = record {
  to = λ r n h. (let t = d.to r n h in (
    t.0,
    λ o. elim (in_either (take i holes) (drop i holes) r n (subst (λ x. InSpans x r n) (sym (take-append-drop i holes)) o)) [
      | inl x ↦ apart_turns x.span span r n (b x.span x.listed) x.is (this_has span r n t.0)
      | inr x ↦ t.1 x
    ],
  ));
  from = λ r n h out. d.from r n h (λ o. out (subst (λ x. InSpans x r n) (take-append-drop i holes) (in_right (take i holes) (drop i holes) r n o)));
  each = d.each;
  apart = d.apart;
}

-- one more span
pub difference_more : (high : ℕ) (spans : List Span) (span : Span) (holes made left : List Span) → IsSpan high span → AreBefore spans span
    → IsSpanDifference high spans holes made → IsSpanDifference high (span ∷ []) holes left → IsSpanDifference high (spans ++ span ∷ []) holes (made ++ left)
difference_more high spans span holes made left v b d e = record {
  to = λ r n h. elim (in_either made left r n h) [
    | inl a ↦ (let t = d.to r n a in (in_left spans (span ∷ []) r n t.0, t.1))
    | inr a ↦ (let t = e.to r n a in (in_right spans (span ∷ []) r n t.0, t.1))
  ];
  from = λ r n h out. elim (in_either spans (span ∷ []) r n h) [ inl a ↦ in_left made left r n (d.from r n a out) | inr a ↦ in_right made left r n (e.from r n a out) ];
  each = λ s l. elim (Contains-append_cases made left s l) [ inl a ↦ d.each s a | inr a ↦ e.each s a ];
  apart = pairs_append SpanComesBefore made left d.apart e.apart across;
}
  where
    in_span : (y : Span) (l : Contains left y) (n : ℤ) → HasTurn y y.residue n → HasTurn span y.residue n
    in_span y l n t = this_has span y.residue n (e.to y.residue n (record { span = y; listed = l; is = t })).0

    in_old : (x : Span) (l : Contains made x) (n : ℤ) → HasTurn x x.residue n → InSpans spans x.residue n
    in_old x l n t = (d.to x.residue n (record { span = x; listed = l; is = t })).0

    -- a turn of an earlier span is below those of the span, or its residue is
    below : (r : ℕ) (n m : ℤ) → InSpans spans r n → HasTurn span r m → n <ℤ m
    below r n m a t = of (b a.span a.listed)
      where
        of : SpanComesBefore a.span span → n <ℤ m
        of (inl l) = let x : a.span.residue ≡ r = a.is.residue in let y : span.residue ≡ r = t.residue in absurd (omega (arith, l, x, y))
        of (inr c) = ends_below a.span span c.1 n m (own a.span r n a.is) (own span r m t)

    across : (x y : Span) → Contains made x → Contains left y → SpanComesBefore x y
    across x y lx ly =
        let vx : IsSpan (high + 1) x = d.each x lx in
        let vy : IsSpan (high + 1) y = e.each y ly in
        let ox : InSpans spans x.residue vx.turn = in_old x lx vx.turn vx.is in
        let oy : HasTurn span y.residue vy.turn = in_span y ly vy.turn vy.is in
        of vx vy ox oy (b ox.span ox.listed)
      where
        of : (vx : IsSpan (high + 1) x) (vy : IsSpan (high + 1) y) (ox : InSpans spans x.residue vx.turn) (oy : HasTurn span y.residue vy.turn) → SpanComesBefore ox.span span → SpanComesBefore x y
        of vx vy ox oy (inl l) = inl (let p : ox.span.residue ≡ x.residue = ox.is.residue in let q : span.residue ≡ y.residue = oy.residue in omega (arith, l, p, q))
        of vx vy ox oy (inr c) =
            let same : x.residue ≡ y.residue = sym ox.is.residue ∙ (c.0 ∙ oy.residue) in
            inr (same, below_ends (high + 1) x y vx vy (λ n m s t. below x.residue n m (in_old x lx n s) (subst (λ r. HasTurn span r m) (sym same) (in_span y ly m t))))

-- the first places, and one more
pub step_difference : (high : ℕ) (spans holes : List Span) (i next : ℕ) (d : Span) (made new : List Span) → AreOrdered high spans → i < length spans
    → AreBefore (take next holes) (get_or spans i d) → IsSpanDifference high (take i spans) holes made → AppendsLeftSpans high (get_or spans i d) (drop next holes) made new
    → IsSpanDifference high (take (i + 1) spans) holes new
step_difference high spans holes i next d made new o l b old a =
    subst (λ x. IsSpanDifference high x holes new) (sym (take_more spans i d l)) (subst (IsSpanDifference high (take i spans ++ get_or spans i d ∷ []) holes) (sym a.is)
    (difference_more high (take i spans) (get_or spans i d) holes made a.left (o.each _ (Contains-get_or spans i d l)) (before_place spans i d l o.apart) old (passed_holes high (get_or spans i d) holes a.left next b a.difference)))

-- holes that come before a span come before the next one
pub still_before : (high : ℕ) (spans holes : List Span) (i next : ℕ) (d : Span) → AreOrdered high spans → AreOrdered high holes → i < length spans → AreBefore (take next holes) (get_or spans i d)
    → (s : Span) → Contains (drop (i + 1) spans) s → AreBefore (take next holes) s
still_before high spans holes i next d o p l b s m v h = before_trans high v (get_or spans i d) s
    (p.each v (subst (λ x. Contains x v) (take-append-drop next holes) (Contains-append_left (take next holes) (drop next holes) v h)))
    (o.each _ (Contains-get_or spans i d l))
    (o.each s (subst (λ x. Contains x s) (take-append-drop (i + 1) spans) (Contains-append_right (take (i + 1) spans) (drop (i + 1) spans) s m)))
    (b v h) (place_before spans i d l o.apart s m)

-- one more hole comes before the span
pub before_more : (holes : List Span) (i : ℕ) (d span : Span) → i < length holes → AreBefore (take i holes) span → SpanComesBefore (get_or holes i d) span → AreBefore (take (i + 1) holes) span
before_more holes i d span l b h v m = elim (Contains-append_cases (take i holes) (get_or holes i d ∷ []) v (subst (λ x. Contains x v) (take_more holes i d l) m)) [
  | inl a ↦ b v a
  | inr a ↦ subst (λ t. SpanComesBefore t span) (in_one (get_or holes i d) v a) h
]

-- what stands at a place is in the list from there on
pub place_in : (xs : List Span) (i : ℕ) (d : Span) → i < length xs → Contains (drop i xs) (get_or xs i d)
place_in xs i d l = subst (λ x. Contains x (get_or xs i d)) (sym (drop_more xs i d l)) (head_in (get_or xs i d) (drop (i + 1) xs))

-- the list from a place to its end
pub to_end : (xs : List Span) (i : ℕ) → take (length xs - i) (drop i xs) ≡ drop i xs
to_end xs i = between_to_end xs i (length xs) (omega arith)
