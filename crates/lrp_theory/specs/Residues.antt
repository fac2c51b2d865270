-- Numbers of a residue, and bounds that are tight for residues.
use Rattle.std.specs.Prelude.{ℕ, ℤ, zero, suc, pos, negsuc, ◌*◌, ◌-◌, ◌<◌, ◌≤ℤ◌, ◌-ℤ◌, Option, Some, None}
use Rattle.lrp_theory.specs.Divides.{Divides, IsPointMember}

-- the bound, where there is one, has the residue w modulo k
abbrev pub Agrees : ℤ → ℤ → Option ℤ → Type 0
Agrees k w None = Unit {0}
Agrees k w (Some a) = Divides k (a -ℤ w)

-- each bound is tight: it has the residue of the difference of its two nodes, of which node i has the residue r i
pub record IsTightAll (n : ℕ) (k : ℤ) (r : ℕ → ℤ) (b : ℕ → ℕ → Option ℤ) : Type 0 where
  pub each : (i j : ℕ) → i < n → j < n → Agrees k (r i -ℤ r j) (b i j)

-- f is the greatest number of the residue r modulo k that is at most x
pub record IsFloor (k r x f : ℤ) : Type 0 where
  pub below : f ≤ℤ x
  pub tight : IsPointMember r k f
  pub greatest : (b : ℤ) → b ≤ℤ x → IsPointMember r k b → b ≤ℤ f

-- each node below n has a number of its residue
abbrev pub HaveResidues : ℕ → ℤ → (ℕ → ℤ) → (ℕ → ℤ) → Type 0
HaveResidues n k r x = (i : ℕ) → i < n → IsPointMember (r i) k (x i)

-- the place in the order 0, 1, -1, 2, -2 and so on
abbrev pub rank : ℤ → ℕ
rank (pos zero) = 0
rank (pos (suc n)) = 2 * suc n - 1
rank (negsuc n) = 2 * suc n
