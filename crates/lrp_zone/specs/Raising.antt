-- Values that no tuple of a zone from given low ends on is below.
use Rattle.std.specs.Prelude.{◌≡◌, ℕ, ℤ, ◌<◌, ◌≤◌, List, Option, length, pos, ◌-ℤ◌, ◌≤ℤ◌}
use Rattle.lrp_theory.specs.Bounds.{Within}
use Rattle.lrp_theory.specs.Divides.{Divides}
use Rattle.lrp_zone.specs.Order.{at}
use Rattle.lrp_zone.specs.Zones.{ZoneView, IsMember, columns_of}

-- x is at least low, and no number of the residue r modulo k from low on is below it
pub record IsFirstValue (k : ℕ) (r low x : ℤ) : Type 0 where
  pub from_low : low ≤ℤ x
  pub lowest : (y : ℤ) → low ≤ℤ y → Divides (pos k) (y -ℤ r) → x ≤ℤ y

-- each of the first n values is at least its low end
pub record IsFromLow (n : ℕ) (low xs : List ℤ) : Type 0 where
  pub each : (i : ℕ) → i < n → at low i ≤ℤ at xs i

-- xs has a value for each column, at least its low end, of which no tuple of z from the low ends on is below, and zeros after them
pub record AreLowest (z : ZoneView) (low xs : List ℤ) : Type 0 where
  pub size : length xs ≡ 8
  pub zeros : (i : ℕ) → columns_of z ≤ i → at xs i ≡ pos 0
  pub from_low : IsFromLow (columns_of z) low xs
  pub lowest : (ys : List ℤ) → IsMember z ys → IsFromLow (columns_of z) low ys → (i : ℕ) → i < columns_of z → at xs i ≤ℤ at ys i

-- x is at most the high end, and at most the bound where there is one
pub record IsBoundedBy (x high : ℤ) (bound : Option ℤ) : Type 0 where
  pub high_end : x ≤ℤ high
  pub within : Within x bound
