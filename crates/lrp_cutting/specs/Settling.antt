-- Zones of one cell, settled: the same set in zones of that cell, in one way where it can be.
use Rattle.std.specs.Prelude.{◌≡◌, ◌≢◌, ℕ, ℤ, ◌+◌, ◌*◌, ◌≤◌, pos, List, ◌++◌, map, take, Contains}
use Rattle.lrp_theory.specs.Entries.{IsSmallClosure}
use Rattle.lrp_matrix.specs.Matrices.{MatrixView, IsClosed, HaveSameIntegers}
use Rattle.lrp_zone.specs.Zones.{ZoneView, IsZone, columns_of, reach_of}
use Rattle.lrp_zone.specs.Pairs.{IsOfCell}
use Rattle.lrp_model.specs.declared.tuples.Cell.{Cell}
use Rattle.lrp_store.specs.Least.{matrix_of}
use Rattle.lrp_store.specs.Stores.{StoreView, IsPadded, tables_at, zones_at}
use Rattle.lrp_store.specs.Settled.{InSome, AreSettled, IsAntichain}
use Rattle.lrp_cutting.specs.Differences.{greatest_reach}

-- each stored bound of the zone, and each least bound that the integers within its bounds meet, has a magnitude of at most h
pub record IsSmallZone (z : ZoneView) (h : ℕ) : Type 0 where
  pub stored : reach_of z ≤ h
  pub closed : (m : MatrixView) → IsClosed m → HaveSameIntegers (matrix_of z) m → IsSmallClosure (columns_of z + 1) h m.cells

-- the new zones are of the cell of z, hold the tuples of the old ones, are settled, and small for the old ones
pub record IsSettlement (z : ZoneView) (old new : List ZoneView) : Type 0 where
  pub zones : (w : ZoneView) → Contains new w → IsZone w × IsOfCell z w
  pub to : (xs : List ℤ) → InSome new xs → InSome old xs
  pub from : (xs : List ℤ) → InSome old xs → InSome new xs
  pub settled : AreSettled z new
  pub small : (w : ZoneView) → Contains new w → IsSmallZone w (columns_of z * greatest_reach old)

-- the zones are appended to the cell's list, and nothing else changes
pub record AddsZones (cell : Cell) (zones : List ZoneView) (old new : StoreView) : Type 0 where
  pub shape : new.shape ≡ old.shape
  pub period : new.period ≡ old.period
  pub here : tables_at new cell ≡ tables_at old cell ++ map (λ z. z.bounds) zones
  pub others : (other : Cell) → other ≢ cell → tables_at new other ≡ tables_at old other

-- zones that are a settlement of the cell's zones in a store are appended to its list in another one
pub record SettlesCell (cell : Cell) (store old new : StoreView) : Type 0 where
  pub made : List ZoneView
  pub adds : AddsZones cell made old new
  pub settled : (z : ZoneView) → Contains (zones_at store cell) z → IsSettlement z (zones_at store cell) made

-- some of the zones, an antichain that holds the tuples of all
pub record IsThinned (old new : List ZoneView) : Type 0 where
  pub kept : (w : ZoneView) → Contains new w → Contains old w × IsZone w
  pub whole : (xs : List ℤ) → InSome old xs → InSome new xs
  pub antichain : IsAntichain new

-- a store of the shape and the period of s
pub record IsLike (s out : StoreView) : Type 0 where
  pub shape : out.shape ≡ s.shape
  pub period : out.period ≡ s.period

-- z is a zone, and zones of its cell can be appended to this cell's list in the store
pub record IsPlaceOf (s : StoreView) (cell : Cell) (z : ZoneView) : Type 0 where
  pub zone : IsZone z
  pub period : z.period ≡ s.period
  pub residues : z.residues ≡ take s.shape.times cell.residues
  pub texts : IsPadded 0 s.shape.texts cell.texts
  pub times : IsPadded (pos 0) s.shape.times cell.residues
