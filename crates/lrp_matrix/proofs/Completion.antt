-- The integers that a column may have after a prefix: closed bounds with zero on the diagonal are closed under triangles, so a prefix that meets the bounds before column i can be completed.
use Rattle.std.proofs.Common.{◌≡◌, ℕ, ◌+◌, ◌<◌, ◌≤◌, ◌≢◌, Option, Some, None, true, false, cond, eqb, ltb, List, arith, refl, sym, ap, subst, ◌∙◌, inl, inr, ◌⊎◌}
use Rattle.std.specs.Prelude.{ℤ, pos, ◌-ℤ◌, ◌≤ℤ◌}
use Rattle.std.proofs.lemmas.Int.{ints, by_lt_z}
use Rattle.std.proofs.lemmas.Bool.Decides.{eqb_tells, nat_tests}
use Rattle.lrp_theory.specs.Bounds.{Within, plus, Meets, IsTriangle, HasNoNegativeCycle, AgreeOn}
use Rattle.lrp_theory.specs.Entries.{entry, node}
use Rattle.lrp_theory.proofs.Below.{within_same, within_less}
use Rattle.lrp_theory.proofs.Drop.{through}
use Rattle.lrp_theory.proofs.Extend.{completed}
use Rattle.lrp_theory.proofs.Lattice.{Anything, any_integer}
use Rattle.lrp_theory.proofs.Lists.{listed, length-values, node-listed, difference}
use Rattle.lrp_matrix.specs.Matrices.{MatrixView, MeetsBounds, IsClosed}
use Rattle.lrp_matrix.specs.Ranges.{Above, AreEndsOf, IsGreatestOf, IsLeastWith, MayHave, MeetsBefore}

-- the bounds with zero on the diagonal
abbrev pub with_zero : List (Option ℤ) → ℕ → ℕ → Option ℤ
with_zero cells i j = cond (eqb i j) (Some (pos 0)) (entry cells i j)

-- on the diagonal equal numbers meet them
at_diagonal : (x y d : ℤ) (cells : List (Option ℤ)) (i j : ℕ) → i ≡ j → x ≡ y → eqb i j ≡ true → Within (x -ℤ y) (with_zero cells i j)
at_diagonal x y d cells i j e f t = rw t (omega (arith, ints))

-- off it they are the entries
off_diagonal : (d : ℤ) (cells : List (Option ℤ)) (i j : ℕ) → eqb i j ≡ false → Within d (entry cells i j) → Within d (with_zero cells i j)
off_diagonal d cells i j t h = rw t h

-- and back
from_off : (d : ℤ) (cells : List (Option ℤ)) (i j : ℕ) → eqb i j ≡ false → Within d (with_zero cells i j) → Within d (entry cells i j)
from_off d cells i j t h = rw t at h

-- on the diagonal they ask for at most 0
from_diagonal : (d : ℤ) (cells : List (Option ℤ)) (i j : ℕ) → eqb i j ≡ true → Within d (with_zero cells i j) → d ≤ℤ pos 0
from_diagonal d cells i j t h = rw t at h

-- a number that is not positive is at most the difference of equal ones
less : (x y d : ℤ) → x ≡ y → d ≤ℤ pos 0 → d ≤ℤ (x -ℤ y)
less x y d e h = omega (arith, ints)

-- numbers of nodes that meet the entries off the diagonal meet the bounds with zero
zero_met : (cells : List (Option ℤ)) (x : ℕ → ℤ) (i j : ℕ) → (i ≢ j → Within (x i -ℤ x j) (entry cells i j)) → Within (x i -ℤ x j) (with_zero cells i j)
zero_met cells x i j h = elim (eqb_tells i j) [
  | inl w ↦ at_diagonal (x i) (x j) (pos 0) cells i j w.1 (ap x w.1) w.0
  | inr w ↦ off_diagonal _ cells i j w.0 (h w.1)
]

module _ (m : MatrixView) (closed : IsClosed m) where
  -- integers that meet the entries meet them
  meets_zero : (xs : List ℤ) → MeetsBounds m xs → Meets (m.columns + 1) (with_zero m.cells) (node xs)
  meets_zero xs h i j il jl = zero_met m.cells (node xs) i j (λ ne. h.each i j (omega arith) (omega arith))

  -- integers that meet the bounds with d at most the difference, for a d within a bound
  some_at : (i j : ℕ) (d : ℤ) → i < m.columns + 1 → j < m.columns + 1 → Within d (with_zero m.cells i j) → (xs : List ℤ) × MeetsBounds m xs × (d ≤ℤ (node xs i -ℤ node xs j))
  some_at i j d il jl h = elim (eqb_tells i j) [
    | inl w ↦ let s = closed.some in (s.integers, s.meet, less (node s.integers i) (node s.integers j) d (ap (node s.integers) w.1) (from_diagonal d m.cells i j w.0 h))
    | inr w ↦ (closed.least i j (omega arith) (omega arith) w.1).reached d (from_off d m.cells i j w.0 h)
  ]

  -- so they are closed under triangles: take integers that reach one bound, and let them meet the two others
  is_triangle : IsTriangle (m.columns + 1) (with_zero m.cells)
  is_triangle i j k il jl kl d h =
      let r : (xs : List ℤ) × MeetsBounds m xs × (d ≤ℤ (node xs i -ℤ node xs j)) = some_at i j d il jl h in
      let met : Meets (m.columns + 1) (with_zero m.cells) (node r.0) = meets_zero r.0 r.1 in
      within_less d (node r.0 i -ℤ node r.0 j) (plus (with_zero m.cells i k) (with_zero m.cells k j)) r.2
      (through (node r.0 i) (node r.0 j) (node r.0 k) (with_zero m.cells i k) (with_zero m.cells k j) (met i k il kl) (met k j kl jl))

  -- and none on the diagonal is negative
  no_negative : HasNoNegativeCycle (m.columns + 1) (with_zero m.cells)
  no_negative i il = let e : eqb i i ≡ true = grind (arith, nat_tests) in rw e (omega (arith, ints))

  -- numbers of nodes that meet the bounds with zero, as a list
  from_zero : (x : ℕ → ℤ) → Meets (m.columns + 1) (with_zero m.cells) x → MeetsBounds m (listed x m.columns)
  from_zero x h = record {
    count = length-values _ m.columns;
    each = λ i j il jl. subst (λ d. Within d (entry m.cells i j)) (sym (difference x m.columns i j il jl))
        (elim (eqb_tells i j) [
          | inl w ↦ subst (λ k. Within (x i -ℤ x k) (entry m.cells i k)) w.1 (within_same (node closed.some.integers i) (x i) (entry m.cells i i) (closed.some.meet.each i i il il))
          | inr w ↦ from_off _ m.cells i j w.0 (h i j (omega arith) (omega arith))
        ]);
  }

  module _ (i : ℕ) (prefix : List ℤ) (low : 0 < i) (high : i ≤ m.columns) (before : MeetsBefore m i prefix) where
    -- numbers of the nodes up to i that meet the bounds among them, with the prefix before i
    may_have : (n : ℕ) → i ≤ n → n ≤ i + 1 → (y : ℕ → ℤ) → ((p : ℕ) → p < i → y p ≡ node prefix p)
        → ((p q : ℕ) → p < n → q < n → p ≢ q → Within (y p -ℤ y q) (entry m.cells p q)) → (x : ℕ → ℤ) × Meets (m.columns + 1) (with_zero m.cells) x × ((p : ℕ) → p < n → x p ≡ y p)
    may_have n le more y same met =
        let r : (x : ℕ → ℤ) × Meets (m.columns + 1) (with_zero m.cells) x × ((p : ℕ) → p < m.columns + 1 → Anything p (x p)) × AgreeOn (m.columns + 1) (λ p. ltb p n) y x =
        completed (m.columns + 1) (with_zero m.cells) Anything (any_integer (m.columns + 1) (with_zero m.cells)) is_triangle no_negative (λ p. ltb p n) y
        (λ p q pl ql sp sq. zero_met m.cells y p q (λ ne. met p q (ltb_lt p n sp) (ltb_lt q n sq) ne)) (λ p pl sp. tt) in
        (r.0, r.1, (λ p pl. r.3 p (omega arith) (lt_ltb p n pl)))
      where
        ltb_lt : (p n : ℕ) → ltb p n ≡ true → p < n
        ltb_lt p n h = grind (arith, nat_tests)

        lt_ltb : (p n : ℕ) → p < n → ltb p n ≡ true
        lt_ltb p n h = grind (arith, nat_tests)

    -- such numbers as integers of the columns
    as_list : (n : ℕ) → i ≤ n → (y x : ℕ → ℤ) → ((p : ℕ) → p < i → y p ≡ node prefix p) → Meets (m.columns + 1) (with_zero m.cells) x → ((p : ℕ) → p < n → x p ≡ y p) → MayHave m i prefix (x i)
    as_list n le y x same met agree =
        let origin : x 0 ≡ pos 0 = agree 0 (omega arith) ∙ same 0 low in
        record {
          integers = listed x m.columns;
          meet = from_zero x met;
          before = λ p pl. node-listed x m.columns p (omega arith) ∙ (let e : x p ≡ node prefix p = agree p (omega arith) ∙ same p pl in omega (arith, ints));
          here = node-listed x m.columns i high ∙ omega (arith, ints);
        }

    -- some integer is possible
    pub some_possible : (v : ℤ) × MayHave m i prefix v
    some_possible =
        let r : (x : ℕ → ℤ) × Meets (m.columns + 1) (with_zero m.cells) x × ((p : ℕ) → p < i → x p ≡ node prefix p) =
        may_have i (omega arith) (omega arith) (node prefix) (λ p pl. refl) (λ p q pl ql ne. before.each p q pl ql) in
        (r.0 i, as_list i (omega arith) (node prefix) r.0 (λ p pl. refl) r.1 r.2)

    -- an integer that meets the bounds to the columns before is possible
    pub possible : (v : ℤ) → ((p : ℕ) → p < i → Within (node prefix p -ℤ v) (entry m.cells p i)) → ((p : ℕ) → p < i → Within (v -ℤ node prefix p) (entry m.cells i p)) → MayHave m i prefix v
    possible v lows highs =
        let y : ℕ → ℤ = λ p. cond (ltb p i) (node prefix p) v in
        let same : (p : ℕ) → p < i → y p ≡ node prefix p = λ p pl. here p pl in
        let at : y i ≡ v = there in
        let r : (x : ℕ → ℤ) × Meets (m.columns + 1) (with_zero m.cells) x × ((p : ℕ) → p < i + 1 → x p ≡ y p) =
        may_have (i + 1) (omega arith) (omega arith) y same (λ p q pl ql ne. pair p q y same at (lt_or p pl) (lt_or q ql) ne) in
        subst (λ w. MayHave m i prefix w) (r.2 i (omega arith) ∙ at) (as_list (i + 1) (omega arith) y r.0 same r.1 r.2)
      where
        here : (p : ℕ) → p < i → cond (ltb p i) (node prefix p) v ≡ node prefix p
        here p h = let e : ltb p i ≡ true = grind (arith, nat_tests) in rw e refl

        there : cond (ltb i i) (node prefix i) v ≡ v
        there = let e : ltb i i ≡ false = grind (arith, nat_tests) in rw e refl

        lt_or : (p : ℕ) → p < i + 1 → (p < i) ⊎ (p ≡ i)
        lt_or p h = grind arith

        pair : (p q : ℕ) (y : ℕ → ℤ) → ((r : ℕ) → r < i → y r ≡ node prefix r) → y i ≡ v → (p < i) ⊎ (p ≡ i) → (q < i) ⊎ (q ≡ i) → p ≢ q → Within (y p -ℤ y q) (entry m.cells p q)
        pair p q y same at (inl a) (inl b) ne = rw (same p a, same q b) (before.each p q a b)
        pair p q y same at (inl a) (inr b) ne = rw (b, same p a, at) (lows p a)
        pair p q y same at (inr a) (inl b) ne = rw (a, same q b, at) (highs q b)
        pair p q y same at (inr a) (inr b) ne = absurd (ne (a ∙ sym b))

    -- and the other way round
    meets_lows : (v : ℤ) → MayHave m i prefix v → (p : ℕ) → p < i → Within (node prefix p -ℤ v) (entry m.cells p i)
    meets_lows v h p pl = rw (← h.before p pl, ← h.here) (h.meet.each p i (omega arith) high)

    -- for the high ends too
    meets_highs : (v : ℤ) → MayHave m i prefix v → (p : ℕ) → p < i → Within (v -ℤ node prefix p) (entry m.cells i p)
    meets_highs v h p pl = rw (← h.before p pl, ← h.here) (h.meet.each i p high (omega arith))

    module _ (least most : Option ℤ) (ends : AreEndsOf m.cells i prefix least most) where
      -- what lies between the ends is possible, and what is possible lies between them
      pub between_possible : (v : ℤ) → Above v least → Within v most → MayHave m i prefix v
      between_possible v a w = possible v (ends.above v a) (ends.below v w)

      above_least : (v : ℤ) → MayHave m i prefix v → Above v least
      above_least v h = ends.from_above v (meets_lows v h)

      within_most : (v : ℤ) → MayHave m i prefix v → Within v most
      within_most v h = ends.from_below v (meets_highs v h)

      above_more : (x y : ℤ) (e : Option ℤ) → x ≤ℤ y → Above x e → Above y e
      above_more x y None l h = tt
      above_more x y (Some a) l h = omega (arith, ints)

      -- so the ends are reached: by d itself, or by some possible integer beyond it
      pub least_is : IsLeastWith (MayHave m i prefix) least
      least_is = record {
        met = above_least;
        reached = λ d h.
            let s = some_possible in
            by_lt_z s.0 d (λ lt. (s.0, s.1, (omega (arith, ints)))) (λ le. (d, between_possible d h (within_less d s.0 most le (within_most s.0 s.1)), (omega (arith, ints))));
      }

      pub most_is : IsGreatestOf (MayHave m i prefix) most
      most_is = record {
        met = within_most;
        reached = λ d h.
            let s = some_possible in
            by_lt_z d s.0 (λ lt. (s.0, s.1, (omega (arith, ints)))) (λ le. (d, between_possible d (above_more s.0 d least le (above_least s.0 s.1)) h, (omega (arith, ints))));
      }

-- the same for a matrix m that is the array of a call
pub range_is : (m v : MatrixView) → v ≡ m → IsClosed m → (i : ℕ) (prefix : List ℤ) → 0 < i → i ≤ m.columns → MeetsBefore m i prefix → (least most : Option ℤ) → AreEndsOf v.cells i prefix least most
    → IsLeastWith (MayHave m i prefix) least × IsGreatestOf (MayHave m i prefix) most × ((w : ℤ) → Above w least → Within w most → MayHave m i prefix w)
range_is m v e closed i prefix low high before least most ends =
    let known : AreEndsOf m.cells i prefix least most = subst (λ w. AreEndsOf w.cells i prefix least most) e ends in
    (least_is m closed i prefix low high before least most known, most_is m closed i prefix low high before least most known, between_possible m closed i prefix low high before least most known)
