-- Two congruences at once: greatest common divisors, and what two points have in common.
use Rattle.std.specs.Prelude.{ℕ, ℤ, ◌<◌, pos}
use Rattle.lrp_theory.specs.Divides.{Divides, IsPointMember}

-- g is the greatest common divisor of a and b: each number that divides both divides it
pub record IsGreatestDivisor (a b g : ℕ) : Type 0 where
  pub positive : 0 < g
  pub left : Divides (pos g) (pos a)
  pub right : Divides (pos g) (pos b)
  pub greatest : (z : ℤ) → Divides z (pos a) → Divides z (pos b) → Divides z (pos g)

-- x is a member of both c + k n and d + m n
abbrev pub IsCommonMember : ℤ → ℕ → ℤ → ℕ → ℤ → Type 0
IsCommonMember c k d m x = IsPointMember c (pos k) x × IsPointMember d (pos m) x
