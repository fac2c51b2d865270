-- How many residues the columns of a zone have, one after another.
use Rattle.std.specs.Prelude.{◌≡◌, ◌⊎◌, ℕ, zero, suc, ℤ, pos, List, ◌*◌, ◌<◌, ◌+ℤ◌, ◌-ℤ◌, ◌≤ℤ◌, ◌<ℤ◌}
use Rattle.lrp_theory.specs.Entries.{node}
use Rattle.lrp_zone.specs.Zones.{ZoneView, IsMember}

-- the column of each tuple is at most so far over another one
abbrev pub IsMostOver : ZoneView → ℕ → ℕ → ℤ → Type 0
IsMostOver z column other most = (xs : List ℤ) → IsMember z xs → (node xs column -ℤ node xs other) ≤ℤ most

-- beside another one the column has values of a window that is shorter than so many periods
pub record IsWindowBetween (z : ZoneView) (column other count : ℕ) : Type 0 where
  pub above : ℤ
  pub below : ℤ
  pub most : IsMostOver z column other above
  pub least : IsMostOver z other column below
  pub enough : (above +ℤ below) <ℤ pos (count * z.period)

-- the column has all ways, or the values of a window beside zero or a column before it
abbrev pub IsWaysLeft : ZoneView → ℕ → ℕ → ℕ → Type 0
IsWaysLeft z ways column count = (count ≡ ways) ⊎ ((other : ℕ) × (other < column) × IsWindowBetween z column other count)

-- the count is the product of what the first n columns have
abbrev pub AreWays : ZoneView → ℕ → ℕ → ℕ → Type 0
AreWays z ways zero count = count ≡ 1
AreWays z ways (suc n) count = (before : ℕ) × (own : ℕ) × AreWays z ways n before × IsWaysLeft z ways (suc n) own × (count ≡ before * own)
