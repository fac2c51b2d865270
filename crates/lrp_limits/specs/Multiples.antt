-- Least common multiples up to 2^62, by the numbers that they divide.
use Rattle.std.specs.Prelude.{ℕ, ◌≤◌, ◌^◌, ◌↔◌, List, ◌++◌, Option, Some, None}
use Rattle.lrp_theory.specs.Divides.{IsMultiple, IsCommon}

-- from 1 to 2^62
pub record IsPeriod (k : ℕ) : Type 0 where
  pub low : 1 ≤ k
  pub high : k ≤ 2 ^ 62

-- the least common multiple of the numbers: its multiples are their common ones
pub record IsLeastWithinLimit (ks : List ℕ) (k : ℕ) : Type 0 where
  pub period : IsPeriod k
  pub multiples : (n : ℕ) → IsMultiple k n ↔ IsCommon ks n

-- their least common multiple, or none where no number from 1 to 2^62 is a common one
abbrev pub IsPeriodOf : List ℕ → Option ℕ → Type 0
IsPeriodOf ks (Some k) = IsLeastWithinLimit ks k
IsPeriodOf ks None = (n : ℕ) → IsPeriod n → IsCommon ks n → ⊥

-- the least common multiple of two, where a period is a common multiple of all
pub record AlwaysJoins (k l m : ℕ) : Type 0 where
  pub joins : (ks ls : List ℕ) (K : ℕ) → IsLeastWithinLimit ks k → IsLeastWithinLimit ls l → IsPeriod K → IsCommon ks K → IsCommon ls K → IsLeastWithinLimit (ks ++ ls) m
