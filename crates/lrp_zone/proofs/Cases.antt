-- Cases on the places of a table.
use Rattle.std.proofs.Common.{◌≡◌, ℕ, ◌≢◌, ◌⊎◌, arith}

-- two numbers are equal, or they are not
pub eq_or : (i j : ℕ) → (i ≡ j) ⊎ (i ≢ j)
eq_or i j = grind arith

-- the place (p, q) is (i, j), or it is another
pub place_or : (p q i j : ℕ) → ((p ≡ i) × (q ≡ j)) ⊎ (p ≡ i → q ≡ j → ⊥)
place_or p q i j = grind arith
