-- The first stop that does not come before a start.
use Rattle.std.proofs.Common.{◌≡◌, ℕ, zero, suc, ◌+◌, ◌<◌, ◌≤◌, ◌^◌, inl, inr, List, [], ◌∷◌, ◌++◌, Option, Some, None, drop, length, length-append, get_or, take, arith, refl, sym, subst, ap, ◌∙◌}
use Rattle.std.specs.Prelude.{ℤ, pos, ◌+ℤ◌, ◌-ℤ◌, ◌≤ℤ◌, ◌<ℤ◌, AllPairs, Contains, slice_get}
use Rattle.std.proofs.lemmas.Int.{ints, by_lt_z}
use Rattle.std.proofs.lemmas.List.{append_assoc, get_or_append_left, get_or_default, get_or-take, take-append-drop, take_more}
use Rattle.lrp_matrix.specs.Ranges.{Above}
use Rattle.lrp_spans.proofs.Lists.{below_or, head_in, pairs_head, pairs_right}
use Rattle.lrp_canon.specs.declared.edges.Edge.{Edge}
use Rattle.lrp_canon.specs.declared.rows.MaximalRow.{MaximalRow}
use Rattle.lrp_canon.specs.Edges.{AreStops, IsEarlierEdge, IsSooner}
use Rattle.lrp_canon.specs.Making.{EndsAt, IsEdgeAhead, IsRowFrom}
use Rattle.lrp_canon.specs.Pairing.{AreRowsFrom, AreStopEdges}

pub some_get : {X : Type 0} (xs : List X) (i : ℕ) (x : X) → i < length xs → get_or xs i x ≡ x → slice_get xs i ≡ Some x
some_get [] i x h e = absurd (omega arith)
some_get (y ∷ xs) zero x h e = ap Some e
some_get (y ∷ xs) (suc i) x h e = some_get xs i x (omega arith) e

module _ (period : ℕ) (stops : List Edge) (is : AreStopEdges period stops) (place : ℕ) (start : Edge)
    (before : (e : Edge) → Contains (take place stops) e → IsEarlierEdge e start) (stop : (e : Edge) → slice_get stops place ≡ Some e → IsEarlierEdge e start → ⊥) where
  -- an edge that is ahead stands at the place or after it
  not_front : (y : ℤ) (a : IsEdgeAhead stops start y) → a.listed.0 < place → ⊥
  not_front y a l =
      let n : a.listed.0 < length stops = a.listed.1 in
      let e : Edge = record { residue = start.residue; number = Some y } in
      of (before e (a.listed.0, shorter place stops a.listed.0 l n, get_or-take place stops a.listed.0 e l ∙ a.listed.2))
    where
      shorter : {X : Type 0} (k : ℕ) (xs : List X) (i : ℕ) → i < k → i < length xs → i < length (take k xs)
      shorter zero xs i p q = absurd (omega arith)
      shorter (suc k) [] i p q = q
      shorter (suc k) (x ∷ xs) zero p q = omega arith
      shorter (suc k) (x ∷ xs) (suc i) p q = let r : i < length (take k xs) = shorter k xs i (omega arith) (omega arith) in omega (arith, r)

      by : (n : Option ℤ) → IsSooner (Some y) n → Above y n → ⊥
      by None s v = s
      by (Some b) s v = absurd (omega (arith, ints))

      of : IsEarlierEdge (record { residue = start.residue; number = Some y }) start → ⊥
      of (inl b) = absurd (omega arith)
      of (inr b) = by start.number b.1 a.later

  -- past the last stop none is ahead
  pub ends_past : length stops ≤ place → EndsAt period stops start None
  ends_past l y a = not_front y a (let n : a.listed.0 < length stops = a.listed.1 in omega (arith, n, l))

  module _ (here : Edge) (l : place < length stops) (at : get_or stops place here ≡ here) where
    found : slice_get stops place ≡ Some here
    found = some_get stops place here l at

    -- the stop at the place is that edge, or comes before it
    at_or_before : (y : ℤ) (a : IsEdgeAhead stops start y) → (here ≡ record { residue = start.residue; number = Some y } → ⊥) → IsEarlierEdge here (record { residue = start.residue; number = Some y })
    at_or_before y a ne =
        let e : Edge = record { residue = start.residue; number = Some y } in
        let n : a.listed.0 < length stops = a.listed.1 in
        elim (below_or a.listed.0 place) [
          | inl b ↦ absurd (not_front y a b)
          | inr b ↦ elim (below_or place a.listed.0) [
            | inl c ↦ (let r : IsEarlierEdge (get_or stops place here) (get_or stops a.listed.0 here) = is.apart place a.listed.0 here c n in
                subst (λ v. IsEarlierEdge v e) at (subst (IsEarlierEdge (get_or stops place here)) (get_or_default stops a.listed.0 here e n ∙ a.listed.2) r))
            | inr c ↦ (let q : a.listed.0 ≡ place = omega arith in absurd (ne (sym at ∙ get_or_default stops place here e l ∙ ap (λ i. get_or stops i e) (sym q) ∙ a.listed.2)))
          ]
        ]

    pub ends_other : (here.residue ≡ start.residue → ⊥) → EndsAt period stops start None
    ends_other ne y a = of (at_or_before y a (λ e. ne (ap (λ (v : Edge). v.residue) e)))
      where
        of : IsEarlierEdge here (record { residue = start.residue; number = Some y }) → ⊥
        of (inl b) = stop here found (inl b)
        of (inr b) = ne b.0

    pub ends_here : (n : ℤ) → here.residue ≡ start.residue → here.number ≡ Some n → (b : ℤ) → b ≡ n -ℤ pos period → EndsAt period stops start (Some b)
    ends_here n same num b eb = (
      record { listed = subst (Contains stops) (eta here.residue here.number same (num ∙ ap Some back)) (place, l, at); later = later start.number refl },
      λ y a. least y a,
    )
      where
        back : n ≡ b +ℤ pos period
        back = omega (arith, ints)

        eta : (r : ℕ) (m : Option ℤ) → r ≡ start.residue → m ≡ Some (b +ℤ pos period) → ◌≡◌ {A = Edge} (record { residue = r; number = m }) (record { residue = start.residue; number = Some (b +ℤ pos period) })
        eta r m p q = rw (p, q) refl

        later : (m : Option ℤ) → start.number ≡ m → Above (b +ℤ pos period) start.number
        later None e = subst (Above (b +ℤ pos period)) (sym e) tt
        later (Some c) e = subst (Above (b +ℤ pos period)) (sym e) (by_lt_z (b +ℤ pos period) c
            (λ lt. absurd (stop here found (inr (same, subst (IsSooner here.number) (sym e) (subst (λ v. IsSooner v (Some c)) (sym (num ∙ ap Some back)) lt)))))
            (λ le. le))

        least : (y : ℤ) → IsEdgeAhead stops start y → (b +ℤ pos period) ≤ℤ y
        least y a = by_lt_z y (b +ℤ pos period)
            (λ lt. absurd (of lt (at_or_before y a (λ e. (let q : Some n ≡ Some y = sym num ∙ ap (λ (v : Edge). v.number) e in let r : n ≡ y = cc in absurd (omega (arith, ints)))))))
            (λ le. le)
          where
            of : y <ℤ (b +ℤ pos period) → IsEarlierEdge here (record { residue = start.residue; number = Some y }) → ⊥
            of lt (inl c) = absurd (omega (arith, c, same))
            of lt (inr c) = let r : n <ℤ y = subst (λ v. IsSooner v (Some y)) num c.1 in absurd (omega (arith, ints))

-- ---- start after start
number_trans : (a b c : Option ℤ) → IsSooner a b → IsSooner b c → IsSooner a c
number_trans a None c p q = absurd (none a p)
  where
    none : (m : Option ℤ) → IsSooner m None → ⊥
    none None s = s
    none (Some m) s = s
number_trans None (Some b) None p q = q
number_trans None (Some b) (Some c) p q = tt
number_trans (Some a) (Some b) None p q = q
number_trans (Some a) (Some b) (Some c) p q = omega (arith, ints)

earlier_trans : (d e f : Edge) → IsEarlierEdge d e → IsEarlierEdge e f → IsEarlierEdge d f
earlier_trans d e f (inl a) (inl b) = inl (omega (arith, a, b))
earlier_trans d e f (inl a) (inr b) = inl (let p : e.residue ≡ f.residue = b.0 in omega (arith, a, p))
earlier_trans d e f (inr a) (inl b) = inl (let p : d.residue ≡ e.residue = a.0 in omega (arith, b, p))
earlier_trans d e f (inr a) (inr b) = inr (a.0 ∙ b.0, number_trans d.number e.number f.number a.1 b.1)

-- what stands after a place of a list in order comes after the edge there
after : (edges : List Edge) (k : ℕ) (d : Edge) → k < length edges → AllPairs IsEarlierEdge edges → (s : Edge) → Contains (drop (k + 1) edges) s → IsEarlierEdge (get_or edges k d) s
after edges k d l all s h =
    let e : take (k + 1) edges ++ drop (k + 1) edges ≡ edges = take-append-drop (k + 1) edges in
    let f : take (k + 1) edges ≡ take k edges ++ get_or edges k d ∷ [] = take_more edges k d l in
    let g : take k edges ++ (get_or edges k d ∷ drop (k + 1) edges) ≡ edges = sym (append_assoc (take k edges) (get_or edges k d ∷ []) (drop (k + 1) edges)) ∙ ap (λ xs. xs ++ drop (k + 1) edges) (sym f) ∙ e in
    pairs_head IsEarlierEdge (get_or edges k d) (drop (k + 1) edges) (pairs_right IsEarlierEdge (take k edges) (get_or edges k d ∷ drop (k + 1) edges) (subst (AllPairs IsEarlierEdge) (sym g) all)) s h

pub still_before : (stops starts : List Edge) (k next : ℕ) (d : Edge) → k < length starts → AllPairs IsEarlierEdge starts → ((e : Edge) → Contains (take next stops) e → IsEarlierEdge e (get_or starts k d)) → (s : Edge) → Contains (drop (k + 1) starts) s → (e : Edge) → Contains (take next stops) e → IsEarlierEdge e s
still_before stops starts k next d l all before s h e m = earlier_trans e (get_or starts k d) s (before e m) (after starts k d l all s h)

pub here_left : (starts : List Edge) (k : ℕ) (d : Edge) → k < length starts → Contains (drop k starts) (get_or starts k d)
here_left [] k d l = absurd (omega arith)
here_left (s ∷ starts) zero d l = head_in s starts
here_left (s ∷ starts) (suc k) d l = here_left starts k d (omega arith)

-- one more row
pub rows_more : (period : ℕ) (stops starts : List Edge) (k : ℕ) (d : Edge) (made new : List MaximalRow) (row : MaximalRow) → k < length starts → length made ≡ k → new ≡ made ++ row ∷ [] → ((i : ℕ) (e : Edge) (r : MaximalRow) → i < k → IsRowFrom period stops (get_or starts i e) (get_or made i r))
    → IsRowFrom period stops (get_or starts k d) row → (i : ℕ) (e : Edge) (r : MaximalRow) → i < k + 1 → IsRowFrom period stops (get_or starts i e) (get_or new i r)
rows_more period stops starts k d made new row kl n q each here i e r il = elim (below_or i k) [
  | inl a ↦ subst (IsRowFrom period stops (get_or starts i e)) (sym (get_or_append_left made (row ∷ []) r i (omega (arith, a, n))) ∙ ap (λ xs. get_or xs i r) (sym q)) (each i e r a)
  | inr b ↦ (let f : i ≡ k = omega (arith, il, b) in
      subst (λ s. IsRowFrom period stops s (get_or new i r)) (get_or_default starts k d e kl ∙ ap (λ j. get_or starts j e) (sym f))
      (subst (IsRowFrom period stops (get_or starts k d)) (sym (last_get made row r) ∙ ap (λ j. get_or (made ++ row ∷ []) j r) (n ∙ sym f) ∙ ap (λ xs. get_or xs i r) (sym q)) here))
]
  where
    last_get : {X : Type 0} (xs : List X) (y d : X) → get_or (xs ++ y ∷ []) (length xs) d ≡ y
    last_get [] y d = refl
    last_get (x ∷ xs) y d = last_get xs y d

pub count_more : (made new : List MaximalRow) (row : MaximalRow) (k : ℕ) → length made ≡ k → new ≡ made ++ row ∷ [] → length new ≡ k + 1
count_more made new row k n q = ap (λ xs. length xs) q ∙ length-append made (row ∷ []) ∙ omega (arith, n)

-- the stops of a set have numbers
pub stop_edges : (set : ℤ → Type 0) (period : ℕ) (stops : List Edge) → period ≤ 2 ^ 62 → AreStops set period stops → AreStopEdges period stops
stop_edges set period stops high are = record {
  apart = are.apart;
  high = high;
  numbers = λ e l. (let s = are.to e l in (s.0, s.2.number, are.small e s.0 l s.2.number));
}

-- all rows
pub rows_end : (period : ℕ) (stops starts : List Edge) (k : ℕ) (made : List MaximalRow) → length starts ≤ k → k ≤ length starts → length made ≡ k → ((i : ℕ) (e : Edge) (r : MaximalRow) → i < k → IsRowFrom period stops (get_or starts i e) (get_or made i r)) → AreRowsFrom period stops starts made
rows_end period stops starts k made l m n each = record { count = omega (arith, l, m, n); each = λ i e r il. each i e r (omega (arith, il, l)) }
