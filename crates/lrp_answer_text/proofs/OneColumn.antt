-- The closed bounds of a zone with one column are its stored ones.
use Rattle.std.proofs.Common.{◌≡◌, ◌≢◌, ◌<◌, ◌+◌, ◌∙◌, ◌⊎◌, inl, inr, ℕ, zero, suc, [], ◌++◌, Option, Some, None, refl, sym, ap, subst, arith}
use Rattle.std.specs.Prelude.{ℤ, pos, ◌-ℤ◌, ◌≤ℤ◌}
use Rattle.std.proofs.lemmas.Int.{ints}
use Rattle.lrp_theory.specs.Bounds.{Within, Meets}
use Rattle.lrp_theory.specs.Entries.{entry, node, IsLeastBound}
use Rattle.lrp_zone.specs.Zones.{ZoneView, IsZone, columns_of}
use Rattle.lrp_answer_text.specs.AnswerText.{bound_between, bounds_in, closed_bounds, shortest}
use Rattle.lrp_answer_text.proofs.Shortest.{bounds_same, least_once, shortest_least}

-- what is less is within too
lower : (c d : ℤ) (e : Option ℤ) → c ≤ℤ d → Within d e → Within c e
lower c d None l h = tt
lower c d (Some a) l h = omega (arith, ints)

one_or_other : (a b : ℤ) → (a ≤ℤ b) ⊎ (b ≤ℤ a)
one_or_other a b = grind (arith, ints)

-- the numbers of two nodes
abbrev pair : ℤ → ℤ → ℕ → ℤ
pair u v zero = u
pair u v (suc k) = v

-- bounds between two nodes that some numbers meet, and none of a node from itself
module _ (b : ℕ → ℕ → Option ℤ) (first : b 0 0 ≡ None) (second : b 1 1 ≡ None) (y : ℕ → ℤ) (meets : Meets 2 b y) where
  pair_meets : (u v : ℤ) → Within (u -ℤ v) (b 0 1) → Within (v -ℤ u) (b 1 0) → Meets 2 b (pair u v)
  pair_meets u v h g zero zero il jl = subst (Within (u -ℤ u)) (sym first) tt
  pair_meets u v h g zero (suc zero) il jl = h
  pair_meets u v h g (suc zero) zero il jl = g
  pair_meets u v h g (suc zero) (suc zero) il jl = subst (Within (v -ℤ v)) (sym second) tt
  pair_meets u v h g (suc (suc i)) j il jl = absurd (omega arith)
  pair_meets u v h g i (suc (suc j)) il jl = absurd (omega arith)

  down : IsLeastBound 2 b 0 1 (b 0 1)
  down = record { met = λ x h. h 0 1 (omega arith) (omega arith); reached = λ d w. by d w (one_or_other d (y 0 -ℤ y 1)) }
    where
      by : (d : ℤ) → Within d (b 0 1) → (d ≤ℤ (y 0 -ℤ y 1)) ⊎ ((y 0 -ℤ y 1) ≤ℤ d) → (x : ℕ → ℤ) × Meets 2 b x × (d ≤ℤ (x 0 -ℤ x 1))
      by d w (inl l) = (y, meets, l)
      by d w (inr l) = (
        pair d (pos 0),
        pair_meets d (pos 0) (lower (d -ℤ pos 0) d (b 0 1) (omega (arith, ints)) w)
            (lower (pos 0 -ℤ d) (y 1 -ℤ y 0) (b 1 0) (omega (arith, ints)) (meets 1 0 (omega arith) (omega arith))),
        omega (arith, ints),
      )

  up : IsLeastBound 2 b 1 0 (b 1 0)
  up = record { met = λ x h. h 1 0 (omega arith) (omega arith); reached = λ d w. by d w (one_or_other d (y 1 -ℤ y 0)) }
    where
      by : (d : ℤ) → Within d (b 1 0) → (d ≤ℤ (y 1 -ℤ y 0)) ⊎ ((y 1 -ℤ y 0) ≤ℤ d) → (x : ℕ → ℤ) × Meets 2 b x × (d ≤ℤ (x 1 -ℤ x 0))
      by d w (inl l) = (y, meets, l)
      by d w (inr l) = (
        pair (pos 0) d,
        pair_meets (pos 0) d (lower (pos 0 -ℤ d) (y 0 -ℤ y 1) (b 0 1) (omega (arith, ints)) (meets 0 1 (omega arith) (omega arith)))
            (lower (d -ℤ pos 0) d (b 1 0) (omega (arith, ints)) w),
        omega (arith, ints),
      )

  own_least : (i j : ℕ) → i < 2 → j < 2 → i ≢ j → IsLeastBound 2 b i j (b i j)
  own_least zero zero il jl ne = absurd (ne refl)
  own_least zero (suc zero) il jl ne = down
  own_least (suc zero) zero il jl ne = up
  own_least (suc zero) (suc zero) il jl ne = absurd (ne refl)
  own_least (suc (suc i)) j il jl ne = absurd (omega arith)
  own_least i (suc (suc j)) il jl ne = absurd (omega arith)

-- the bounds between two nodes
two_bounds : (b : ℕ → ℕ → Option ℤ) → b 0 0 ≡ None → b 1 1 ≡ None → bounds_in 2 b ≡ bound_between 0 1 (b 0 1) ++ bound_between 1 0 (b 1 0)
two_bounds b first second = by (b 0 0) (b 0 1) (b 1 0) (b 1 1) first second
  where
    by : (p q r s : Option ℤ) → p ≡ None → s ≡ None → (bound_between 0 0 p ++ (bound_between 0 1 q ++ [])) ++ ((bound_between 1 0 r ++ (bound_between 1 1 s ++ [])) ++ []) ≡ bound_between 0 1 q ++ bound_between 1 0 r
    by None None None None e f = refl
    by None None (Some c) None e f = refl
    by None (Some a) None None e f = refl
    by None (Some a) (Some c) None e f = refl
    by (Some d) q r s e f = absurd (cc)
    by p q r (Some d) e f = absurd (cc)

pub one_column : (z : ZoneView) → IsZone z → columns_of z ≡ 1 → bound_between 0 1 (entry z.bounds 0 1) ++ bound_between 1 0 (entry z.bounds 1 0) ≡ closed_bounds z
one_column z is one =
    let b : ℕ → ℕ → Option ℤ = entry z.bounds in
    let nodes : columns_of z + 1 ≡ 2 = omega (arith, one) in
    let first : b 0 0 ≡ None = is.shape.diagonal 0 (omega arith) in
    let second : b 1 1 ≡ None = is.shape.diagonal 1 (omega (arith, one)) in
    let meets : Meets 2 b (node is.some.member) = λ i j il jl. is.some.is.meets i j (omega (arith, one)) (omega (arith, one)) in
    sym (two_bounds b first second)
    ∙ bounds_same 2 b (shortest z.bounds 2) (λ i j il jl ne. least_once 2 b i j (b i j) (shortest z.bounds 2 i j) (own_least b first second (node is.some.member) meets i j il jl ne)
    (subst (λ n. IsLeastBound n b i j (shortest z.bounds n i j)) nodes (shortest_least z is i j (omega (arith, one)) (omega (arith, one)) ne)))
    ∙ ap (λ n. bounds_in n (shortest z.bounds n)) (sym nodes)
