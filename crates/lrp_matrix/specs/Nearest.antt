-- The integer nearest to zero in an interval, among those of a residue.
use Rattle.std.specs.Prelude.{ℤ, pos, ◌*◌, ◌-◌, ◌≤◌, ◌≤ℤ◌, ◌<ℤ◌, Option}
use Rattle.lrp_theory.specs.Bounds.{Within}
use Rattle.lrp_theory.specs.Divides.{IsPointMember}
use Rattle.lrp_matrix.specs.Ranges.{Above}
use Rattle.lrp_theory.specs.Residues.{rank}

-- x lies between the ends, where there are such, and has the residue r modulo k
pub record IsBetween (least most : Option ℤ) (r k x : ℤ) : Type 0 where
  pub low : Above x least
  pub high : Within x most
  pub residue : IsPointMember r k x

-- x is the first of them by rank
pub record IsNearest (least most : Option ℤ) (r k x : ℤ) : Type 0 where
  pub between : IsBetween least most r k x
  pub first : (y : ℤ) → IsBetween least most r k y → rank x ≤ rank y

-- s is the least number from zero on that is above the end
pub record IsLeastAbove (least : Option ℤ) (s : ℤ) : Type 0 where
  pub side : pos 0 ≤ℤ s
  pub above : Above s least
  pub first : (x : ℤ) → pos 0 ≤ℤ x → Above x least → s ≤ℤ x

-- s is the greatest number below zero that is within the end
pub record IsLastStart (most : Option ℤ) (s : ℤ) : Type 0 where
  pub side : s <ℤ pos 0
  pub within : Within s most
  pub last : (x : ℤ) → x <ℤ pos 0 → Within x most → x ≤ℤ s

-- x is the least of them that is not negative
pub record IsFirstFromZero (least most : Option ℤ) (r k x : ℤ) : Type 0 where
  pub between : IsBetween least most r k x
  pub side : pos 0 ≤ℤ x
  pub first : (y : ℤ) → IsBetween least most r k y → pos 0 ≤ℤ y → x ≤ℤ y

-- x is the greatest of them that is negative
pub record IsLastBelowZero (least most : Option ℤ) (r k x : ℤ) : Type 0 where
  pub between : IsBetween least most r k x
  pub side : x <ℤ pos 0
  pub last : (y : ℤ) → IsBetween least most r k y → y <ℤ pos 0 → y ≤ℤ x
