-- The numbers of spans with both ends, one after another, and how many they are.
use Rattle.std.proofs.Common.{◌≡◌, ◌≢◌, ℕ, zero, suc, ◌+◌, ◌-◌, ◌<◌, ◌^◌, inl, inr, List, [], ◌∷◌, ◌++◌, Option, Some, None, get_or, length, length-append, map, take, arith, refl, sym, subst, ap, ◌∙◌}
use Rattle.std.specs.Prelude.{ℤ, pos, nat_abs, ◌+ℤ◌, ◌-ℤ◌, ◌≤ℤ◌, ◌<ℤ◌, AllPairs, Contains, min, sum_by}
use Rattle.std.proofs.Math.IntN.{◌*ℤ◌}
use Rattle.std.proofs.lemmas.Int.{ints, by_lt_z}
use Rattle.std.proofs.lemmas.List.{length-map}
use Rattle.std.proofs.lemmas.List.Sums.{sum_by-cons, sum_by_more}
use Rattle.std.proofs.lemmas.List.Elements.{Contains-append_cases, Contains-append_left, Contains-append_right, Contains-push, Contains-push_cases}
use Rattle.lrp_theory.specs.Bounds.{Within}
use Rattle.lrp_matrix.specs.Ranges.{Above}
use Rattle.lrp_spans.specs.declared.spans.Span.{Span}
use Rattle.lrp_spans.specs.Spans.{HaveResiduesBelow, SpanComesBefore, SpansHaveNumber, HasTurn, IsSpan}
use Rattle.lrp_spans.proofs.Lists.{in_cons, in_none, in_one, later, head_in, pairs_append, pairs_head, pairs_map, pairs_none, pairs_one, pairs_right}
use Rattle.lrp_canon.specs.Counting.{capped_count, turns_between, turns_of}
use Rattle.lrp_canon.specs.Edges.{HasEnds}
use Rattle.lrp_canon.specs.Rows.{Moment}
use Rattle.lrp_canon.proofs.StartLaws.{one_residue, one_turn}
use Rattle.lrp_theory.proofs.Members.{from_map, in_map}

-- so many numbers from one on
pub turns : ℤ → ℕ → List ℤ
turns a zero = []
turns a (suc n) = turns a n ++ (a +ℤ pos n) ∷ []

pub turns_length : (a : ℤ) (n : ℕ) → length (turns a n) ≡ n
unfolding turns
turns_length a zero = refl
turns_length a (suc n) = let e : length (turns a n) ≡ n = turns_length a n in let l : length (turns a n ++ (a +ℤ pos n) ∷ []) ≡ length (turns a n) + 1 = length-append (turns a n) ((a +ℤ pos n) ∷ []) in omega (arith, e, l)

pub turns_to : (a : ℤ) (n : ℕ) (x : ℤ) → Contains (turns a n) x → (a ≤ℤ x) × (x <ℤ (a +ℤ pos n))
unfolding turns
turns_to a zero x h = absurd (in_none x h)
turns_to a (suc n) x h = elim (Contains-push_cases (turns a n) (a +ℤ pos n) x h) [
  | inl m ↦ (let t = turns_to a n x m in let p : a ≤ℤ x = t.0 in let q : x <ℤ (a +ℤ pos n) = t.1 in (p, omega (arith, ints)))
  | inr e ↦ (let f : a +ℤ pos n ≡ x = e in (omega (arith, ints), omega (arith, ints)))
]

pub turns_from : (a : ℤ) (n : ℕ) (x : ℤ) → a ≤ℤ x → x <ℤ (a +ℤ pos n) → Contains (turns a n) x
unfolding turns
turns_from a zero x l h = absurd (omega (arith, ints))
turns_from a (suc n) x l h = by_lt_z x (a +ℤ pos n)
    (λ lt. Contains-append_left (turns a n) ((a +ℤ pos n) ∷ []) x (turns_from a n x l lt))
    (λ ge. let e : a +ℤ pos n ≡ x = omega (arith, ints) in subst (Contains (turns a n ++ (a +ℤ pos n) ∷ [])) e (Contains-push (turns a n) (a +ℤ pos n)))

pub turns_apart : (a : ℤ) (n : ℕ) → AllPairs ◌<ℤ◌ (turns a n)
unfolding turns
turns_apart a zero = pairs_none ◌<ℤ◌
turns_apart a (suc n) = pairs_append ◌<ℤ◌ (turns a n) ((a +ℤ pos n) ∷ []) (turns_apart a n) (pairs_one ◌<ℤ◌ (a +ℤ pos n)) (λ x y l m. subst (λ z. x <ℤ z) (in_one (a +ℤ pos n) y m) (turns_to a n x l).1)

-- the first turn of a span that has one
start_of : Option ℤ → ℤ
start_of None = pos 0
start_of (Some a) = a

-- the number of a residue in a turn, with texts
pub place : ℕ → List ℕ → ℕ → ℤ → Moment ℕ
place k texts r n = record { number = pos r +ℤ (pos k *ℤ n); texts = texts }

places_in : ℕ → List ℕ → Span → List (Moment ℕ)
places_in k texts s = map (place k texts s.residue) (turns (start_of s.first) (turns_of s))

pub places : ℕ → List ℕ → List Span → List (Moment ℕ)
places k texts [] = []
places k texts (s ∷ spans) = places_in k texts s ++ places k texts spans

pub places_length : (k : ℕ) (texts : List ℕ) (spans : List Span) → length (places k texts spans) ≡ sum_by turns_of spans
unfolding places places_in
places_length k texts [] = refl
places_length k texts (s ∷ spans) =
    let a : length (map (place k texts s.residue) (turns (start_of s.first) (turns_of s))) ≡ length (turns (start_of s.first) (turns_of s)) = length-map (turns (start_of s.first) (turns_of s)) (place k texts s.residue) in
    let b : length (turns (start_of s.first) (turns_of s)) ≡ turns_of s = turns_length (start_of s.first) (turns_of s) in
    let c : length (places k texts spans) ≡ sum_by turns_of spans = places_length k texts spans in
    let d : length (places_in k texts s) ≡ turns_of s = a ∙ b in
    let e : sum_by turns_of (s ∷ spans) ≡ turns_of s + sum_by turns_of spans = sum_by-cons turns_of s spans in
    let f : length (places_in k texts s ++ places k texts spans) ≡ length (places_in k texts s) + length (places k texts spans) = length-append (places_in k texts s) (places k texts spans) in
    omega (arith, c, d, e, f)

-- the turns of a span with both ends
module _ (s : Span) (high : ℕ) (valid : IsSpan high s) (ends : HasEnds s) where
  order : ends.start ≤ℤ ends.end
  order =
      let a : ends.start ≤ℤ valid.turn = subst (Above valid.turn) ends.starts valid.is.low in
      let b : valid.turn ≤ℤ ends.end = subst (Within valid.turn) ends.ends valid.is.high in
      omega (arith, ints)

  pub count_is : pos (turns_of s) ≡ (ends.end +ℤ pos 1) -ℤ ends.start
  count_is =
      let o : ends.start ≤ℤ ends.end = order in
      let e : turns_of s ≡ nat_abs ((ends.end +ℤ pos 1) -ℤ ends.start) = ap (λ f. turns_between f s.last) ends.starts ∙ ap (turns_between (Some ends.start)) ends.ends in
      omega (arith, ints, e)

  start_is : start_of s.first ≡ ends.start
  unfolding start_of
  start_is = ap start_of ends.starts

  turn_to : (n : ℤ) → Contains (turns (start_of s.first) (turns_of s)) n → HasTurn s s.residue n
  turn_to n h =
      let t = turns_to (start_of s.first) (turns_of s) n h in
      let a : start_of s.first ≤ℤ n = t.0 in
      let b : n <ℤ (start_of s.first +ℤ pos (turns_of s)) = t.1 in
      let c : start_of s.first ≡ ends.start = start_is in
      let d : pos (turns_of s) ≡ (ends.end +ℤ pos 1) -ℤ ends.start = count_is in
      record { residue = refl; low = subst (Above n) (sym ends.starts) (omega (arith, ints)); high = subst (Within n) (sym ends.ends) (omega (arith, ints)) }

  turn_from : (n : ℤ) → HasTurn s s.residue n → Contains (turns (start_of s.first) (turns_of s)) n
  turn_from n h =
      let a : ends.start ≤ℤ n = subst (Above n) ends.starts h.low in
      let b : n ≤ℤ ends.end = subst (Within n) ends.ends h.high in
      let c : start_of s.first ≡ ends.start = start_is in
      let d : pos (turns_of s) ≡ (ends.end +ℤ pos 1) -ℤ ends.start = count_is in
      turns_from (start_of s.first) (turns_of s) n (omega (arith, ints)) (omega (arith, ints))

module _ (k high : ℕ) (texts : List ℕ) where
  -- ---- all numbers of spans
  pub in_places : (spans : List Span) → ((s : Span) → Contains spans s → IsSpan high s) → ((s : Span) → Contains spans s → HasEnds s) → (p : Moment ℕ) → Contains (places k texts spans) p → (p.texts ≡ texts) × SpansHaveNumber k spans p.number
  unfolding places places_in place
  in_places [] valid ends p h = absurd (in_none p h)
  in_places (s ∷ spans) valid ends p h = elim (Contains-append_cases (places_in k texts s) (places k texts spans) p h) [
    | inl a ↦ (
        let t = from_map (place k texts s.residue) (turns (start_of s.first) (turns_of s)) p a in (
          ap (λ (q : Moment ℕ). q.texts) (sym t.2),
          record { residue = s.residue; turn = t.0; is = ap (λ (q : Moment ℕ). q.number) (sym t.2); inside = record { span = s; listed = head_in s spans; is = turn_to s high (valid s (head_in s spans)) (ends s (head_in s spans)) t.0 t.1 } },
        ))
    | inr a ↦ (
        let t = in_places spans (λ q l. valid q (later s spans q l)) (λ q l. ends q (later s spans q l)) p a in
        let n : SpansHaveNumber k spans p.number = t.1 in
        (t.0, record { residue = n.residue; turn = n.turn; is = n.is; inside = record { span = n.inside.span; listed = later s spans n.inside.span n.inside.listed; is = n.inside.is } }))
  ]

  from_span : (spans : List Span) → ((s : Span) → Contains spans s → IsSpan high s) → ((s : Span) → Contains spans s → HasEnds s) → (s : Span) → Contains spans s → (n : ℤ) → HasTurn s s.residue n → Contains (places k texts spans) (place k texts s.residue n)
  unfolding places places_in
  from_span [] valid ends s l n h = absurd (in_none s l)
  from_span (v ∷ spans) valid ends s l n h = elim (in_cons v spans s l) [
    | inl e ↦ subst (λ q. Contains (places k texts (v ∷ spans)) (place k texts q.residue n)) e
        (Contains-append_left (places_in k texts v) (places k texts spans) (place k texts v.residue n)
        (in_map (place k texts v.residue) (turns (start_of v.first) (turns_of v)) n (turn_from v high (valid v (head_in v spans)) (ends v (head_in v spans)) n (subst (λ q. HasTurn q q.residue n) (sym e) h))))
    | inr m ↦ Contains-append_right (places_in k texts v) (places k texts spans) (place k texts s.residue n) (from_span spans (λ q l. valid q (later v spans q l)) (λ q l. ends q (later v spans q l)) s m n h)
  ]

  pub of_places : (spans : List Span) → ((s : Span) → Contains spans s → IsSpan high s) → ((s : Span) → Contains spans s → HasEnds s) → (x : ℤ) → SpansHaveNumber k spans x → Contains (places k texts spans) (record { number = x; texts = texts })
  unfolding place
  of_places spans valid ends x h =
      let s : Span = h.inside.span in
      let e : pos s.residue +ℤ (pos k *ℤ h.turn) ≡ x = ap (λ r. pos r +ℤ (pos k *ℤ h.turn)) h.inside.is.residue ∙ sym h.is in
      subst (λ y. Contains (places k texts spans) (record { number = y; texts = texts })) e
      (from_span spans valid ends s h.inside.listed h.turn (record { residue = refl; low = h.inside.is.low; high = h.inside.is.high }))

  -- numbers of spans that come one before the other differ
  differ : (s : Span) (spans : List Span) → 0 < k → s.residue < k → HaveResiduesBelow k spans → ((v : Span) → Contains spans v → SpanComesBefore s v) → (n : ℤ) → HasTurn s s.residue n → SpansHaveNumber k spans (pos s.residue +ℤ (pos k *ℤ n)) → ⊥
  differ s spans low sl below before n t h =
      let v : Span = h.inside.span in
      let hl : h.residue < k = subst (λ r. r < k) h.inside.is.residue (below v h.inside.listed) in
      let e : s.residue ≡ h.residue = one_residue k s.residue h.residue n h.turn sl hl h.is in
      let f : n ≡ h.turn = one_turn k s.residue h.residue n h.turn sl hl h.is in
      of v (e ∙ sym h.inside.is.residue) (subst (λ m. HasTurn v h.residue m) (sym f) h.inside.is) (before v h.inside.listed)
    where
      of : (v : Span) → s.residue ≡ v.residue → HasTurn v h.residue n → SpanComesBefore s v → ⊥
      of v e i (inl a) = absurd (omega (arith, a, e))
      of v e i (inr b) =
          let a : n ≤ℤ b.1.end = subst (Within n) b.1.ends t.high in
          let c : b.1.start ≤ℤ n = subst (Above n) b.1.starts i.low in
          let d : b.1.end <ℤ b.1.start = b.1.below in
          absurd (omega (arith, ints))

  same_turn : (r : ℕ) (n m : ℤ) → 0 < k → r < k → place k texts r n ≡ place k texts r m → n ≡ m
  unfolding place
  same_turn r n m low rl e = one_turn k r r n m rl rl (ap (λ (q : Moment ℕ). q.number) e)

  pub places_apart : (spans : List Span) → 0 < k → ((s : Span) → Contains spans s → IsSpan high s) → ((s : Span) → Contains spans s → HasEnds s) → HaveResiduesBelow k spans → AllPairs SpanComesBefore spans → AllPairs ◌≢◌ (places k texts spans)
  unfolding places places_in place
  places_apart [] low valid ends below all = pairs_none ◌≢◌
  places_apart (s ∷ spans) low valid ends below all = pairs_append ◌≢◌ (places_in k texts s) (places k texts spans)
      (pairs_map ◌≢◌ ◌<ℤ◌ (place k texts s.residue) (turns (start_of s.first) (turns_of s)) (turns_apart (start_of s.first) (turns_of s)) (λ n m ln lm lt e. (let f : n ≡ m = same_turn s.residue n m low (below s (head_in s spans)) e in absurd (omega (arith, ints)))))
      (places_apart spans low (λ q l. valid q (later s spans q l)) (λ q l. ends q (later s spans q l)) (λ q l. below q (later s spans q l)) (pairs_right SpanComesBefore (s ∷ []) spans all))
      (λ p q a b e. across p q a b e)
    where
      across : (p q : Moment ℕ) → Contains (map (place k texts s.residue) (turns (start_of s.first) (turns_of s))) p → Contains (places k texts spans) q → p ≡ q → ⊥
      across p q a b e =
          let t = from_map (place k texts s.residue) (turns (start_of s.first) (turns_of s)) p a in
          let i = in_places spans (λ v l. valid v (later s spans v l)) (λ v l. ends v (later s spans v l)) q b in
          let f : q.number ≡ pos s.residue +ℤ (pos k *ℤ t.0) = ap (λ (v : Moment ℕ). v.number) (sym e ∙ sym t.2) in
          differ s spans low (below s (head_in s spans)) (λ v l. below v (later s spans v l)) (pairs_head SpanComesBefore s spans all) t.0
          (turn_to s high (valid s (head_in s spans)) (ends s (head_in s spans)) t.0 t.1) (subst (SpansHaveNumber k spans) f i.1)

-- one more span is counted
pub counted_more : (spans : List Span) (i : ℕ) (d : Span) (old more new : ℕ) → i < length spans → old ≡ capped_count (sum_by turns_of (take i spans)) → more ≡ turns_of (get_or spans i d) → new ≡ min (old + more) (2 ^ 64 - 1) → new ≡ capped_count (sum_by turns_of (take (i + 1) spans))
counted_more spans i d old more new l e f g =
    let s : sum_by turns_of (take (i + 1) spans) ≡ sum_by turns_of (take i spans) + turns_of (get_or spans i d) = sum_by_more turns_of spans i d l in
    let a : old ≡ min (sum_by turns_of (take i spans)) (2 ^ 64 - 1) = e in
    let b : min (sum_by turns_of (take (i + 1) spans)) (2 ^ 64 - 1) ≡ capped_count (sum_by turns_of (take (i + 1) spans)) = refl in
    omega (arith, s, a, f, g) ∙ b
