-- How a zone's parts stand in memory.
use Rattle.std.specs.Prelude.{◌≡◌, ℕ, ◌-◌, ◌≤◌, List, ◌++◌, Option, length, take, replicate, pos}
use Rattle.std.specs.Prelude.{ℤ}
use Rattle.lrp_zone.specs.Zones.{IsZone}

-- a number of values and zeros after them, eight in all
pub record HasZerosAfter (count : ℕ) (values : List ℤ) : Type 0 where
  pub high : count ≤ 8
  pub size : length values ≡ 8
  pub zeros : values ≡ take count values ++ replicate (8 - count) (pos 0)

-- eight residues, padded, and with the others the parts of a zone
pub record IsLaidOut (period columns : ℕ) (residues : List ℤ) (bounds : List (Option ℤ)) : Type 0 where
  pub padded : HasZerosAfter columns residues
  pub zone : IsZone (record { period = period; residues = take columns residues; bounds = bounds })
