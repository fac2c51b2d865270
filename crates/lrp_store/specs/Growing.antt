-- What calls that add to a store do: they add a part of a set, or refuse because of a cell that is one too many.
use Rattle.std.specs.Prelude.{◌≡◌, ◌≢◌, ℕ, ℤ, ◌+◌, ◌≤◌, ◌⊎◌, List, None, length, take}
use Rattle.std.specs.FinMap as finite
use Rattle.lrp_model.specs.Cells.{Many}
use Rattle.lrp_model.specs.declared.tuples.Cell.{Cell}
use Rattle.lrp_model.specs.declared.tuples.Shape.{Shape}
use Rattle.lrp_zone.specs.Zones.{ZoneView, IsMember, greatest_of}
use Rattle.lrp_store.specs.Stores.{StoreView, IsStore, HasReach, InStore, IsInhabitedCell, tables_at, whole_zone}

-- new is a store that has what old has, and besides only tuples of the set; its zones reach no further than this or those of old, and it has not more than cap cells where old had not
pub record IsGrown (set : List ℤ → List ℕ → Type 0) (cap high : ℕ) (old new : StoreView) : Type 0 where
  pub valid : IsStore new
  pub shape : new.shape ≡ old.shape
  pub period : new.period ≡ old.period
  pub kept : (times : List ℤ) (texts : List ℕ) → InStore old times texts → InStore new times texts
  pub sound : (times : List ℤ) (texts : List ℕ) → InStore new times texts → InStore old times texts ⊎ set times texts
  pub few : finite.len old.tables ≤ cap → finite.len new.tables ≤ cap
  pub reach : (h : ℕ) → high ≤ h → HasReach old h → HasReach new h

-- all of the set is held
pub record IsWhole (set : List ℤ → List ℕ → Type 0) (s : StoreView) : Type 0 where
  pub each : (times : List ℤ) (texts : List ℕ) → set times texts → InStore s times texts

-- the store has cap cells or more, and the set inhabits one that it has not
pub record HasOneMore (set : List ℤ → List ℕ → Type 0) (cap : ℕ) (s : StoreView) : Type 0 where
  pub cell : Cell
  pub inhabited : IsInhabitedCell s.shape s.period set cell
  pub apart : finite.get s.tables cell ≡ None
  pub full : cap ≤ finite.len s.tables

-- all of the set was added
pub record IsAdded (set : List ℤ → List ℕ → Type 0) (cap high : ℕ) (old new : StoreView) : Type 0 where
  pub grown : IsGrown set cap high old new
  pub whole : IsWhole set new

-- a part of the set was added, and another cell of the set would be one too many
pub record IsRefused (set : List ℤ → List ℕ → Type 0) (cap high : ℕ) (old new : StoreView) : Type 0 where
  pub grown : IsGrown set cap high old new
  pub more : HasOneMore set cap new

-- the cell has at most n zones more, and the lists of the other cells are as they were
pub record GrowsByAtMost (n : ℕ) (cell : Cell) (old new : StoreView) : Type 0 where
  pub few : length (tables_at new cell) ≤ length (tables_at old cell) + n
  pub others : (other : Cell) → other ≢ cell → tables_at new other ≡ tables_at old other

-- the times are in the zone, and the texts are these
pub record IsTupleOf (z : ZoneView) (named : List ℕ) (times : List ℤ) (texts : List ℕ) : Type 0 where
  pub member : IsMember z times
  pub same : named ≡ texts

-- the tuples of a zone of a cell: times of the zone with the cell's texts
abbrev pub tuples_in : StoreView → Cell → ZoneView → List ℤ → List ℕ → Type 0
tuples_in s cell z = IsTupleOf z (take s.shape.texts cell.texts)

-- all tuples of a zone of the cell were added
abbrev pub IsZoneAdded : ZoneView → Cell → ℕ → StoreView → StoreView → Type 0
IsZoneAdded z cell cap old new = IsAdded (tuples_in old cell z) cap (greatest_of z.bounds) old new

-- a zone of the cell was refused, since the cell would be one too many
abbrev pub IsZoneRefused : ZoneView → Cell → ℕ → StoreView → StoreView → Type 0
IsZoneRefused z cell cap old new = IsRefused (tuples_in old cell z) cap (greatest_of z.bounds) old new

-- all tuples of the cell were added
abbrev pub IsCellAdded : Cell → ℕ → StoreView → StoreView → Type 0
IsCellAdded cell cap old new = IsZoneAdded (whole_zone old cell) cell cap old new

-- the cell was refused, since it would be one too many
abbrev pub IsCellRefused : Cell → ℕ → StoreView → StoreView → Type 0
IsCellRefused cell cap old new = IsZoneRefused (whole_zone old cell) cell cap old new

-- the set inhabits more than cap cells of this shape and period
abbrev pub InhabitsMany : Shape → ℕ → (List ℤ → List ℕ → Type 0) → ℕ → Type 0
InhabitsMany shape period set cap = Many ◌≢◌ (IsInhabitedCell shape period set) cap
