-- The tuples of a zone that are in none of some cutters, as disjoint zones.
use Rattle.std.specs.Prelude.{ℕ, ℤ, List, [], ◌∷◌, Contains, AllPairs, max}
use Rattle.lrp_zone.specs.Zones.{ZoneView, IsZone, IsMember, reach_of}
use Rattle.lrp_zone.specs.Pairs.{IsOfCell, HaveNoCommon}
use Rattle.lrp_store.specs.Settled.{InSome}

-- each of the zones is of the cell of z
pub record AreOfCell (z : ZoneView) (zones : List ZoneView) : Type 0 where
  pub each : (w : ZoneView) → Contains zones w → IsOfCell z w

-- the greatest reach of the zones, or 0
abbrev pub greatest_reach : List ZoneView → ℕ
greatest_reach [] = 0
greatest_reach (z ∷ zs) = max (reach_of z) (greatest_reach zs)

-- the pieces are disjoint zones of the cell of z, and hold just the tuples of z that are in no cutter
pub record IsDifference (z : ZoneView) (cutters pieces : List ZoneView) : Type 0 where
  pub zones : (w : ZoneView) → Contains pieces w → IsZone w × IsOfCell z w
  pub disjoint : AllPairs HaveNoCommon pieces
  pub to : (xs : List ℤ) → InSome pieces xs → IsMember z xs × (InSome cutters xs → ⊥)
  pub from : (xs : List ℤ) → IsMember z xs → (InSome cutters xs → ⊥) → InSome pieces xs
