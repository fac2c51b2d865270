-- Two zones of one cell: inclusion and intersection.
use Rattle.std.specs.Prelude.{◌≡◌, ◌≤◌, List, max}
use Rattle.std.specs.Prelude.{ℤ}
use Rattle.lrp_zone.specs.Zones.{ZoneView, IsMember, reach_of}

-- w is of the cell of z
pub record IsOfCell (z w : ZoneView) : Type 0 where
  pub period : w.period ≡ z.period
  pub residues : w.residues ≡ z.residues

-- each tuple of z is one of w
pub record IsWithin (z w : ZoneView) : Type 0 where
  pub each : (xs : List ℤ) → IsMember z xs → IsMember w xs

-- z holds the tuples that v and w have in common
pub record IsMeet (v w z : ZoneView) : Type 0 where
  pub cell : IsOfCell v z
  pub to : (xs : List ℤ) → IsMember z xs → IsMember v xs × IsMember w xs
  pub from : (xs : List ℤ) → IsMember v xs → IsMember w xs → IsMember z xs
  pub reach : reach_of z ≤ max (reach_of v) (reach_of w)

-- v and w have no tuple in common
pub record HaveNoCommon (v w : ZoneView) : Type 0 where
  pub none : (xs : List ℤ) → IsMember v xs → IsMember w xs → ⊥
