-- The reach of a zone against the magnitudes of its bounds.
use Rattle.std.proofs.Common.{◌≡◌, ℕ, zero, suc, ◌+◌, ◌*◌, ◌/◌, ◌%◌, ◌<◌, ◌≤◌, List, [], ◌∷◌, Option, Some, None, arith, sym, subst, length, get_or, inl, inr, ◌⊎◌, max}
use Rattle.std.specs.Prelude.{ℤ}
use Rattle.std.proofs.lemmas.Int.{ints}
use Rattle.lrp_theory.specs.Entries.{entry, AtMost, AllSmall}
use Rattle.lrp_theory.proofs.Through.{AtMost-more}
use Rattle.lrp_zone.specs.Zones.{ZoneView, IsEmptyFrom, columns_of, magnitude_of, greatest_of, reach_of}

-- a bound of at most h has a magnitude of at most h
small_magnitude : (h : ℕ) (e : Option ℤ) → AtMost h e → magnitude_of e ≤ h
small_magnitude h None s = omega arith
small_magnitude h (Some a) s = omega (arith, ints)

-- a bound has at most its magnitude
magnitude_small : (e : Option ℤ) → AtMost (magnitude_of e) e
magnitude_small None = tt
magnitude_small (Some a) = (omega (arith, ints), omega (arith, ints))

-- the greater of two numbers is at most what both are
max_low : (m n h : ℕ) → m ≤ h → n ≤ h → max m n ≤ h
max_low m n h a b = omega arith

-- the greater of two numbers is no less than the first
left_low : (m n : ℕ) → m ≤ max m n
left_low m n = omega arith

-- and no less than the second
right_low : (m n : ℕ) → n ≤ max m n
right_low m n = omega arith

-- where each bound has at most h, the greatest magnitude is at most h
greatest_low : (h : ℕ) (cells : List (Option ℤ)) → ((p : ℕ) → p < length cells → AtMost h (get_or cells p None)) → greatest_of cells ≤ h
greatest_low h [] small = omega arith
greatest_low h (e ∷ es) small = max_low (magnitude_of e) (greatest_of es) h (small_magnitude h e (small zero (omega arith))) (greatest_low h es (λ p l. small (suc p) (omega arith)))

-- no bound has more than the greatest magnitude
below_greatest : (cells : List (Option ℤ)) (p : ℕ) → AtMost (greatest_of cells) (get_or cells p None)
below_greatest [] p = tt
below_greatest (e ∷ es) zero = AtMost-more (magnitude_of e) _ e (left_low (magnitude_of e) (greatest_of es)) (magnitude_small e)
below_greatest (e ∷ es) (suc p) = AtMost-more (greatest_of es) _ (get_or es p None) (right_low (magnitude_of e) (greatest_of es)) (below_greatest es p)

-- each bound has at most the reach
pub reach_small : (z : ZoneView) (h : ℕ) → reach_of z ≤ h → AllSmall (columns_of z + 1) h z.bounds
reach_small z h l = record { each = λ i j il jl. AtMost-more (reach_of z) h _ l (below_greatest z.bounds (9 * i + j)) }

-- and where each has at most h, the reach is at most h
pub small_reach : (z : ZoneView) (h : ℕ) → columns_of z ≤ 8 → length z.bounds ≡ 81 → IsEmptyFrom (columns_of z + 1) z.bounds → AllSmall (columns_of z + 1) h z.bounds → reach_of z ≤ h
small_reach z h cl size empty small = greatest_low h z.bounds (λ p l. at p (omega arith))
  where
    inside : (i n : ℕ) → (i < n) ⊎ (n ≤ i)
    inside i n = grind arith

    none : (e : Option ℤ) → e ≡ None → AtMost h e
    none e q = subst (λ f. AtMost h f) (sym q) tt

    place : (i j : ℕ) → i < 9 → j < 9 → AtMost h (entry z.bounds i j)
    place i j il jl = elim (inside i (columns_of z + 1)) [
      | inl a ↦ elim (inside j (columns_of z + 1)) [
        | inl b ↦ small.each i j a b
        | inr b ↦ none (entry z.bounds i j) (empty.none i j il jl (inr b))
      ]
      | inr a ↦ none (entry z.bounds i j) (empty.none i j il jl (inl a))
    ]

    at : (p : ℕ) → p < 81 → AtMost h (get_or z.bounds p None)
    at p l =
        let split : 9 * (p / 9) + p % 9 ≡ p = omega arith in
        subst (λ q. AtMost h (get_or z.bounds q None)) split (place (p / 9) (p % 9) (omega arith) (omega arith))
