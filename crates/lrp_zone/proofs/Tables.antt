-- Tables of bounds: what a write leaves empty, and when two tables are equal.
use Rattle.std.proofs.Common.{◌≡◌, ℕ, ◌+◌, ◌*◌, ◌/◌, ◌%◌, ◌<◌, ◌≤◌, List, Option, None, replicate, arith, sym, subst, ◌∙◌, length, get_or, inl, inr, ◌⊎◌}
use Rattle.std.specs.Prelude.{ℤ}
use Rattle.std.proofs.lemmas.List.{get_or-replicate, ext_get_or}
use Rattle.lrp_theory.specs.Entries.{entry}
use Rattle.lrp_zone.specs.Zones.{IsEmptyFrom}

-- a free table has no bounds
pub empty_free : (n : ℕ) (out : List (Option ℤ)) → out ≡ replicate 81 None → IsEmptyFrom n out
empty_free n out e = record { none = λ i j il jl h. (let small : 9 * i + j < 81 = omega arith in rw e (get_or-replicate 81 (9 * i + j) None None small)) }

-- a write inside leaves the outside empty
pub empty_put : (n i j : ℕ) (old new : List (Option ℤ)) → i < n → j < n → ((p q : ℕ) → q < 9 → (p ≡ i → q ≡ j → ⊥) → entry new p q ≡ entry old p q) → IsEmptyFrom n old → IsEmptyFrom n new
empty_put n i j old new il jl others h = record { none = λ p q pl ql o. others p q ql (apart p q o) ∙ h.none p q pl ql o }
  where
    apart : (p q : ℕ) → (n ≤ p) ⊎ (n ≤ q) → p ≡ i → q ≡ j → ⊥
    apart p q (inl l) e f = omega arith
    apart p q (inr l) e f = omega arith

-- tables with the same bound at each place are equal
pub same_table : (a b : List (Option ℤ)) → length a ≡ 81 → length b ≡ 81 → ((i j : ℕ) → i < 9 → j < 9 → entry a i j ≡ entry b i j) → a ≡ b
same_table a b la lb same = ext_get_or None a b (la ∙ sym lb) (λ p l. at p (omega arith))
  where
    at : (p : ℕ) → p < 81 → get_or a p None ≡ get_or b p None
    at p l =
        let split : 9 * (p / 9) + p % 9 ≡ p = omega arith in
        subst (λ q. get_or a q None ≡ get_or b q None) split (same (p / 9) (p % 9) (omega arith) (omega arith))
