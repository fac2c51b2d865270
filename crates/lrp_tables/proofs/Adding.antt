-- A zone that can be added to a store, and whose tuples are those of a set.
use Rattle.std.proofs.Common.{◌≡◌, ℕ, ◌≤◌, List, take}
use Rattle.std.specs.Prelude.{ℤ, pos}
use Rattle.std.specs.FinMap as finite
use Rattle.lrp_model.specs.declared.tuples.Cell.{Cell}
use Rattle.lrp_zone.specs.Zones.{ZoneView, IsZone, IsMember, greatest_of}
use Rattle.lrp_store.specs.Stores.{StoreView, IsPadded}
use Rattle.lrp_store.proofs.Grown.{Set}

-- the zone can stand in the cell of the store, and the set has its tuples with the cell's texts, and no others
pub record IsZoneOf (set : Set) (s : StoreView) (c : Cell) (z : ZoneView) (high : ℕ) : Type 0 where
  pub zone : IsZone z
  pub period : z.period ≡ s.period
  pub residues : z.residues ≡ take s.shape.times c.residues
  pub texts : IsPadded 0 s.shape.texts c.texts
  pub times : IsPadded (pos 0) s.shape.times c.residues
  pub to : (xs : List ℤ) → IsMember z xs → set xs (take s.shape.texts c.texts)
  pub from : (xs : List ℤ) (ns : List ℕ) → set xs ns → IsMember z xs × (take s.shape.texts c.texts ≡ ns)
  pub low : greatest_of z.bounds ≤ high
