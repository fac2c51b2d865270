-- What a store stands for: tuples of times and of numbers of texts, in cells that have zones.
use Rattle.std.specs.Prelude.{◌≡◌, ◌≢◌, ℕ, ℤ, pos, ◌^◌, ◌<◌, ◌≤◌, List, [], map, length, take, Option, Some, None, All, Contains, replicate, slice_get, slice_index, slice_index_or, sum_by, ◌-ℤ◌}
use Rattle.std.specs.FinMap as finite
use Rattle.lrp_theory.specs.Divides.{Divides}
use Rattle.lrp_theory.specs.Entries.{node}
use Rattle.lrp_model.specs.declared.tuples.Cell.{Cell}
use Rattle.lrp_model.specs.declared.tuples.Shape.{Shape}
use Rattle.lrp_slots.specs.Lists.{cell_cmp, list_at}
use Rattle.lrp_zone.specs.Zones.{ZoneView, IsZone, IsMember, IsResidue, reach_of}

-- a shape, a period, for each cell that is held the tables of stored bounds of its zones, and how many more zones held cells can take in without memory
pub record StoreView : Type 0 where
  pub shape : Shape
  pub period : ℕ
  pub tables : finite.FinMap cell_cmp (List (List (Option ℤ)))
  pub spare : ℕ

-- the zone of a cell with these stored bounds: it has the store's period and the cell's residues
abbrev pub zone_of : StoreView → Cell → List (Option ℤ) → ZoneView
zone_of s cell table = record { period = s.period; residues = take s.shape.times cell.residues; bounds = table }

-- a cell's tables, in order, and none where the cell is not held
abbrev pub tables_at : StoreView → Cell → List (List (Option ℤ))
tables_at s cell = list_at s.tables cell

-- a cell's zones, in order
abbrev pub zones_at : StoreView → Cell → List ZoneView
zones_at s cell = map (zone_of s cell) (tables_at s cell)

-- the number of all zones
abbrev pub zone_count : StoreView → ℕ
zone_count s = sum_by (λ tables. length tables) (finite.values s.tables)

-- the zone of a cell that has no bounds
abbrev pub whole_zone : StoreView → Cell → ZoneView
whole_zone s cell = zone_of s cell (replicate 81 None)

-- the list of a cell begins with that zone
abbrev pub BeginsWhole : StoreView → Cell → Type 0
BeginsWhole s cell = slice_get (tables_at s cell) 0 ≡ Some (replicate 81 None)

-- only the tables and the number of spare slots may differ
abbrev pub ChangesTablesAlone : StoreView → StoreView → Type 0
ChangesTablesAlone old new = new ≡ record old { tables = new.tables; spare = new.spare }

-- the cell is not held, and cap cells or more are
abbrev pub IsOneTooMany : StoreView → Cell → ℕ → Type 0
IsOneTooMany s cell cap = (finite.get s.tables cell ≡ None) × (cap ≤ finite.len s.tables)

-- some zone of a cell with these texts has the times
pub record InStore (s : StoreView) (times : List ℤ) (texts : List ℕ) : Type 0 where
  pub cell : Cell
  pub table : List (Option ℤ)
  pub held : Contains (tables_at s cell) table
  pub named : take s.shape.texts cell.texts ≡ texts
  pub inside : IsMember (zone_of s cell table) times

-- some zone of this cell has the times, and the texts are the cell's
pub record InCell (s : StoreView) (cell : Cell) (times : List ℤ) (texts : List ℕ) : Type 0 where
  pub table : List (Option ℤ)
  pub held : Contains (tables_at s cell) table
  pub named : take s.shape.texts cell.texts ≡ texts
  pub inside : IsMember (zone_of s cell table) times

-- eight values, of which all from number n on are zero
pub record IsPadded {X : Type 0} (nought : X) (n : ℕ) (values : List X) : Type 0 where
  pub size : length values ≡ 8
  pub zeros : (i : ℕ) → n ≤ i → slice_index_or values i nought ≡ nought

-- a cell of this shape and period: a residue for each time, and zeros past the shape
pub record IsCellOf (shape : Shape) (period : ℕ) (cell : Cell) : Type 0 where
  pub texts : IsPadded 0 shape.texts cell.texts
  pub residues : IsPadded (pos 0) shape.times cell.residues
  pub range : (i : ℕ) → i ≤ shape.times → IsResidue period (node cell.residues i)

-- a cell that is held: it is of the store's shape and period, and has some zone
pub record IsHeld (s : StoreView) (cell : Cell) (tables : List (List (Option ℤ))) : Type 0 where
  pub proper : IsCellOf s.shape s.period cell
  pub some : tables ≢ []
  pub zones : All (λ table. IsZone (zone_of s cell table)) tables

-- what each store keeps
pub record IsStore (s : StoreView) : Type 0 where
  pub times : s.shape.times ≤ 8
  pub texts : s.shape.texts ≤ 8
  pub period_low : 0 < s.period
  pub period_high : s.period ≤ 2 ^ 62
  pub few : finite.len s.tables < 2 ^ 32
  pub cells : (cell : Cell) (tables : List (List (Option ℤ))) → finite.get s.tables cell ≡ Some tables → IsHeld s cell tables

-- each zone of a store has at most this reach
pub record HasReach (s : StoreView) (reach : ℕ) : Type 0 where
  pub each : (cell : Cell) (table : List (Option ℤ)) → Contains (tables_at s cell) table → reach_of (zone_of s cell table) ≤ reach

-- the tuple lies in the cell: its times have the residues, and its texts are the cell's
pub record LiesInCell (shape : Shape) (period : ℕ) (cell : Cell) (times : List ℤ) (texts : List ℕ) : Type 0 where
  pub count : length times ≡ shape.times
  pub residues : (i : ℕ) → i ≤ shape.times → Divides (pos period) (node times i -ℤ node cell.residues i)
  pub named : take shape.texts cell.texts ≡ texts

-- a cell in which some tuple of the set lies
pub record IsInhabitedCell (shape : Shape) (period : ℕ) (set : List ℤ → List ℕ → Type 0) (cell : Cell) : Type 0 where
  pub proper : IsCellOf shape period cell
  pub times : List ℤ
  pub texts : List ℕ
  pub is : set times texts
  pub inside : LiesInCell shape period cell times texts

-- the store holds just the tuples of the set
pub record HoldsJust (set : List ℤ → List ℕ → Type 0) (s : StoreView) : Type 0 where
  pub sound : (times : List ℤ) (texts : List ℕ) → InStore s times texts → set times texts
  pub whole : (times : List ℤ) (texts : List ℕ) → set times texts → InStore s times texts

-- the numbers before a column are below the size; after them are zeros
pub record AreChosenTexts (size column : ℕ) (texts : List ℕ) : Type 0 where
  pub padded : IsPadded 0 column texts
  pub low : (i : ℕ) → i < column → slice_index texts i < size
