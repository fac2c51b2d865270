-- Spans moved by a step.
use Rattle.std.proofs.Common.{◌≡◌, ℕ, ◌+◌, ◌-◌, ◌*◌, ◌<◌, ◌≤◌, inl, inr, List, [], ◌∷◌, ◌++◌, Option, Some, None, map, take, drop, arith, refl, sym, subst, ap}
use Rattle.std.specs.Prelude.{ℤ, pos, ◌+ℤ◌, ◌-ℤ◌, ◌≤ℤ◌, ◌<ℤ◌, neg_ℤ, Contains, AllPairs, slice_get}
use Rattle.std.proofs.Math.IntN.{◌*ℤ◌}
use Rattle.std.proofs.lemmas.Int.{ints}
use Rattle.std.proofs.lemmas.List.{take-append-drop}
use Rattle.std.proofs.lemmas.List.Elements.{Contains-append_cases, Contains-append_left, Contains-append_right}
use Rattle.lrp_theory.specs.Bounds.{Within}
use Rattle.lrp_theory.specs.Entries.{AtMost}
use Rattle.lrp_theory.proofs.Modulo.{distrib, minus_right}
use Rattle.lrp_matrix.specs.Ranges.{Above}
use Rattle.lrp_spans.specs.declared.spans.Span.{Span}
use Rattle.lrp_spans.specs.Spans.{HaveResiduesBelow, AreOrdered, AreShifted, SpanComesBefore, SpansHaveNumber, HasTurn, IsSpan, moved_past, moved_within, next_turn}
use Rattle.lrp_spans.proofs.CutLaws.{wider_span}
use Rattle.lrp_spans.proofs.Lists.{in_cons, in_none, pairs_append, pairs_head, pairs_left, pairs_map, pairs_right, slice_get_drop}
use Rattle.lrp_spans.proofs.MergeLaws.{in_either, in_left, in_right}
use Rattle.lrp_theory.proofs.Members.{from_map, in_map}

-- one turn later
above_next : (n : ℤ) (e : Option ℤ) → Above n (next_turn e) → Above (n -ℤ pos 1) e
above_next n None a = tt
above_next n (Some f) a = omega (arith, ints)

within_next : (n : ℤ) (e : Option ℤ) → Within n (next_turn e) → Within (n -ℤ pos 1) e
within_next n None a = tt
within_next n (Some f) a = omega (arith, ints)

next_above : (n : ℤ) (e : Option ℤ) → Above n e → Above (n +ℤ pos 1) (next_turn e)
next_above n None a = tt
next_above n (Some f) a = omega (arith, ints)

next_within : (n : ℤ) (e : Option ℤ) → Within n e → Within (n +ℤ pos 1) (next_turn e)
next_within n None a = tt
next_within n (Some f) a = omega (arith, ints)

next_small : (h : ℕ) (e : Option ℤ) → AtMost h e → AtMost (h + 1) (next_turn e)
next_small h None a = tt
next_small h (Some f) a = let l : neg_ℤ (pos h) ≤ℤ f = a.0 in let m : f ≤ℤ pos h = a.1 in (omega (arith, ints), omega (arith, ints))

module _ (high K step : ℕ) (left right : List Span) (ordered : AreOrdered high (left ++ right)) (below : HaveResiduesBelow K (left ++ right)) (fits : step ≤ K)
    (before : (s : Span) → Contains left s → s.residue + step < K) (after : (s : Span) → Contains right s → K ≤ s.residue + step) where
  abbrev past : Span → Span
  past s = moved_past K step s

  abbrev within : Span → Span
  within s = moved_within step s

  abbrev made : List Span
  made = map (moved_past K step) right ++ map (moved_within step) left

  past_turn : (s : Span) (n : ℤ) → HasTurn s s.residue n → HasTurn (past s) (past s).residue (n +ℤ pos 1)
  past_turn s n t = record { residue = refl; low = next_above n s.first t.low; high = next_within n s.last t.high }

  -- the number of a turn of a moved span
  past_number : (s : Span) (r : ℕ) (n x : ℤ) → Contains right s → HasTurn (past s) r n → x ≡ pos r +ℤ (pos K *ℤ n) → x -ℤ pos step ≡ pos s.residue +ℤ (pos K *ℤ (n -ℤ pos 1))
  past_number s r n x l t is =
      let e : s.residue + step - K ≡ r = t.residue in
      let b : K ≤ s.residue + step = after s l in
      let d : pos K *ℤ (n -ℤ pos 1) ≡ (pos K *ℤ n) -ℤ (pos K *ℤ pos 1) = minus_right (pos K) n (pos 1) in
      let o : pos K *ℤ pos 1 ≡ pos (K * 1) = refl in
      let q : K * 1 ≡ K = omega arith in
      omega (arith, ints, e, b, q)

  pub shifted_to : (x : ℤ) → SpansHaveNumber K made x → SpansHaveNumber K (left ++ right) (x -ℤ pos step)
  shifted_to x h = elim (in_either (map (moved_past K step) right) (map (moved_within step) left) h.residue h.turn h.inside) [
    | inl a ↦ (
        let m = from_map (moved_past K step) right a.span a.listed in
        let t : HasTurn (past m.0) h.residue h.turn = subst (λ s. HasTurn s h.residue h.turn) (sym m.2) a.is in
        record {
          residue = m.0.residue;
          turn = h.turn -ℤ pos 1;
          is = past_number m.0 h.residue h.turn x m.1 t h.is;
          inside = record {
            span = m.0;
            listed = Contains-append_right left right m.0 m.1;
            is = record { residue = refl; low = above_next h.turn m.0.first t.low; high = within_next h.turn m.0.last t.high };
          };
        })
    | inr a ↦ (
        let m = from_map (moved_within step) left a.span a.listed in
        let t : HasTurn (within m.0) h.residue h.turn = subst (λ s. HasTurn s h.residue h.turn) (sym m.2) a.is in
        let e : m.0.residue + step ≡ h.residue = t.residue in
        let i : x ≡ pos h.residue +ℤ (pos K *ℤ h.turn) = h.is in
        record {
          residue = m.0.residue;
          turn = h.turn;
          is = omega (arith, ints, e);
          inside = record { span = m.0; listed = Contains-append_left left right m.0 m.1; is = record { residue = refl; low = t.low; high = t.high } };
        })
  ]

  pub shifted_from : (x : ℤ) → SpansHaveNumber K (left ++ right) x → SpansHaveNumber K made (x +ℤ pos step)
  shifted_from x h = elim (in_either left right h.residue h.turn h.inside) [
    | inl a ↦ (
        let e : a.span.residue ≡ h.residue = a.is.residue in
        let i : x ≡ pos h.residue +ℤ (pos K *ℤ h.turn) = h.is in
        record {
          residue = a.span.residue + step;
          turn = h.turn;
          is = omega (arith, ints, e);
          inside = in_right (map (moved_past K step) right) (map (moved_within step) left) _ _ (record { span = within a.span; listed = in_map (moved_within step) left a.span a.listed; is = record { residue = refl; low = a.is.low; high = a.is.high } });
        })
    | inr a ↦ (
        let e : a.span.residue ≡ h.residue = a.is.residue in
        let i : x ≡ pos h.residue +ℤ (pos K *ℤ h.turn) = h.is in
        let b : K ≤ a.span.residue + step = after a.span a.listed in
        let d : pos K *ℤ (h.turn +ℤ pos 1) ≡ (pos K *ℤ h.turn) +ℤ (pos K *ℤ pos 1) = distrib (pos K) h.turn (pos 1) in
        let o : pos K *ℤ pos 1 ≡ pos (K * 1) = refl in
        let q : K * 1 ≡ K = omega arith in
        record {
          residue = a.span.residue + step - K;
          turn = h.turn +ℤ pos 1;
          is = omega (arith, ints, e, b, q);
          inside = in_left (map (moved_past K step) right) (map (moved_within step) left) _ _ (record {
            span = past a.span;
            listed = in_map (moved_past K step) right a.span a.listed;
            is = record { residue = refl; low = next_above h.turn a.span.first a.is.low; high = next_within h.turn a.span.last a.is.high };
          });
        })
  ]

  past_span : (s : Span) → IsSpan high s → IsSpan (high + 1) (past s)
  past_span s v = record { first = next_small high s.first v.first; last = next_small high s.last v.last; turn = v.turn +ℤ pos 1; is = past_turn s v.turn v.is }

  within_span : (s : Span) → IsSpan high s → IsSpan (high + 1) (within s)
  within_span s v = let w : IsSpan (high + 1) s = wider_span high s v in record { first = w.first; last = w.last; turn = w.turn; is = record { residue = refl; low = w.is.low; high = w.is.high } }

  past_before : (v w : Span) → Contains right v → Contains right w → SpanComesBefore v w → SpanComesBefore (past v) (past w)
  past_before v w l m (inl a) = inl (omega (arith, a, after v l, after w m))
  past_before v w l m (inr a) = inr (
    ap (λ r. r + step - K) a.0,
    record { end = a.1.end +ℤ pos 1; ends = ap next_turn a.1.ends; start = a.1.start +ℤ pos 1; starts = ap next_turn a.1.starts; below = (let k : a.1.end <ℤ a.1.start = a.1.below in omega (arith, ints)) },
  )

  within_before : (v w : Span) → Contains left v → Contains left w → SpanComesBefore v w → SpanComesBefore (within v) (within w)
  within_before v w l m (inl a) = inl (omega (arith, a))
  within_before v w l m (inr a) = inr (ap (λ r. r + step) a.0, record { end = a.1.end; ends = a.1.ends; start = a.1.start; starts = a.1.starts; below = a.1.below })

  across : (x y : Span) → Contains (map (moved_past K step) right) x → Contains (map (moved_within step) left) y → SpanComesBefore x y
  across x y l m =
      let a = from_map (moved_past K step) right x l in
      let b = from_map (moved_within step) left y m in
      let c : a.0.residue < K = below a.0 (Contains-append_right left right a.0 a.1) in
      let d : K ≤ a.0.residue + step = after a.0 a.1 in
      subst (λ v. SpanComesBefore v y) a.2 (subst (SpanComesBefore (past a.0)) b.2 (inl (omega (arith, c, d))))

  pub shifted_is : AreShifted high K step (left ++ right) made
  shifted_is = record {
    to = shifted_to;
    from = shifted_from;
    ordered = record {
      each = λ s l. elim (Contains-append_cases (map (moved_past K step) right) (map (moved_within step) left) s l) [
        | inl a ↦ (let m = from_map (moved_past K step) right s a in subst (IsSpan (high + 1)) m.2 (past_span m.0 (ordered.each m.0 (Contains-append_right left right m.0 m.1))))
        | inr a ↦ (let m = from_map (moved_within step) left s a in subst (IsSpan (high + 1)) m.2 (within_span m.0 (ordered.each m.0 (Contains-append_left left right m.0 m.1))))
      ];
      apart = pairs_append SpanComesBefore (map (moved_past K step) right) (map (moved_within step) left)
          (pairs_map SpanComesBefore SpanComesBefore (moved_past K step) right (pairs_right SpanComesBefore left right ordered.apart) past_before)
          (pairs_map SpanComesBefore SpanComesBefore (moved_within step) left (pairs_left SpanComesBefore left right ordered.apart) within_before) across;
    };
    below = λ s l. elim (Contains-append_cases (map (moved_past K step) right) (map (moved_within step) left) s l) [
      | inl a ↦ (let m = from_map (moved_past K step) right s a in subst (λ t. t.residue < K) m.2 (omega (arith, below m.0 (Contains-append_right left right m.0 m.1), after m.0 m.1)))
      | inr a ↦ (let m = from_map (moved_within step) left s a in subst (λ t. t.residue < K) m.2 (before m.0 m.1))
    ];
  }

-- after a place whose residue is not below the end none is
pub none_below : (high : ℕ) (spans : List Span) (place end : ℕ) → AreOrdered high spans → ((s : Span) → slice_get spans place ≡ Some s → end ≤ s.residue) → (s : Span) → Contains (drop place spans) s → end ≤ s.residue
none_below high spans place end ordered stop s l = at (drop place spans) (pairs_drop spans place ordered.apart) (λ t e. stop t (head_drop spans place t e)) s l
  where
    pairs_drop : (xs : List Span) (i : ℕ) → AllPairs SpanComesBefore xs → AllPairs SpanComesBefore (drop i xs)
    pairs_drop xs i all = pairs_right SpanComesBefore (take i xs) (drop i xs) (subst (AllPairs SpanComesBefore) (sym (take-append-drop i xs)) all)

    head_drop : (xs : List Span) (i : ℕ) (t : Span) → slice_get (drop i xs) 0 ≡ Some t → slice_get xs i ≡ Some t
    head_drop xs i t e = slice_get_drop xs i t e

    at : (xs : List Span) → AllPairs SpanComesBefore xs → ((t : Span) → slice_get xs 0 ≡ Some t → end ≤ t.residue) → (s : Span) → Contains xs s → end ≤ s.residue
    at [] all first s l = absurd (in_none s l)
    at (x ∷ xs) all first s l = elim (in_cons x xs s l) [
      | inl e ↦ subst (λ t. end ≤ t.residue) e (first x refl)
      | inr m ↦ of (pairs_head SpanComesBefore x xs all s m)
    ]
      where
        of : SpanComesBefore x s → end ≤ s.residue
        of (inl a) = omega (arith, a, first x refl)
        of (inr a) = let e : x.residue ≡ s.residue = a.0 in omega (arith, first x refl)

-- the moved spans of both parts
pub all_shifted : (high K step : ℕ) (spans : List Span) (place : ℕ) → AreOrdered high spans → HaveResiduesBelow K spans → step ≤ K
    → HaveResiduesBelow (K - step) (take place spans) → ((s : Span) → Contains (drop place spans) s → K - step ≤ s.residue)
    → AreShifted high K step spans (map (moved_past K step) (drop place spans) ++ map (moved_within step) (take place spans))
all_shifted high K step spans place ordered below fits before after =
    let e : take place spans ++ drop place spans ≡ spans = take-append-drop place spans in
    subst (λ xs. AreShifted high K step xs (map (moved_past K step) (drop place spans) ++ map (moved_within step) (take place spans))) e
    (shifted_is high K step (take place spans) (drop place spans) (subst (AreOrdered high) (sym e) ordered) (subst (HaveResiduesBelow K) (sym e) below) fits
    (λ s l. omega (arith, before s l)) (λ s l. omega (arith, after s l, fits)))
