-- The tuples of a cell that meet bounds.
use Rattle.std.specs.Prelude.{ℕ, ℤ, ◌≤◌, List, Contains, nat_abs}
use Rattle.lrp_model.specs.declared.relations.Bound.{Bound}
use Rattle.lrp_zone.specs.Zones.{ZoneView, IsZone, IsInCell, IsMember, reach_of}
use Rattle.lrp_zone.specs.Pairs.{IsOfCell}
use Rattle.lrp_cutting.specs.Halves.{IsWithinBound, CanBeStored}

-- each of the bounds is tight in the cell of z, and can be stored
pub record AllCanBeStored (z : ZoneView) (bs : List Bound) : Type 0 where
  pub each : (b : Bound) → Contains bs b → CanBeStored z b

-- the tuple xs is of the cell of z, and meets the bounds
pub record MeetsAll (z : ZoneView) (bs : List Bound) (xs : List ℤ) : Type 0 where
  pub cell : IsInCell z xs
  pub meets : (b : Bound) → Contains bs b → IsWithinBound b xs

-- w holds these tuples, and stores no other bounds
pub record IsBounded (z : ZoneView) (bs : List Bound) (w : ZoneView) : Type 0 where
  pub valid : IsZone w
  pub cell : IsOfCell z w
  pub to : (xs : List ℤ) → IsMember w xs → MeetsAll z bs xs
  pub from : (xs : List ℤ) → MeetsAll z bs xs → IsMember w xs
  pub reach : (h : ℕ) → ((b : Bound) → Contains bs b → nat_abs b.most ≤ h) → reach_of w ≤ h
