-- Zones of cells as lists of entries.
use Rattle.std.specs.Prelude.{◌≡◌, ℕ, ℤ, ◌-◌, ◌<◌, ◌≤◌, ◌==◌, pos, List, [], ◌∷◌, map, Option, Some, None, IfSome, length, slice_index_or, if◌then◌else◌}
use Rattle.std.specs.List.{AllByRecursion, range_with_len}
use Rattle.lrp_model.specs.declared.tuples.Cell.{Cell}
use Rattle.lrp_zone.specs.Numbers.{FitsNumber}
use Rattle.lrp_packed.specs.declared.zones.PackedEntry.{PackedEntry}

-- a cell, and the table of the stored bounds of one of its zones
abbrev pub CellZone : Type 0
CellZone = Cell × List (Option ℤ)

-- the first entry for a place
abbrev pub entry_for : List PackedEntry → ℕ → Option PackedEntry
entry_for [] place = None
entry_for (e ∷ es) place = if e.place == place then Some e else entry_for es place

-- the text, the residue and the bound that an entry stands for
abbrev pub text_in : Option PackedEntry → ℕ
text_in None = 0
text_in (Some e) = e.text

abbrev pub residue_in : Option PackedEntry → ℤ
residue_in None = pos 0
residue_in (Some e) = e.time

abbrev pub bound_in : Option PackedEntry → Option ℤ
bound_in None = None
bound_in (Some e) = Some e.time

-- what stands at so many places from one on
abbrev pub read_from : {X : Type 0} → (Option PackedEntry → X) → ℕ → ℕ → List PackedEntry → List X
read_from f first count es = map (λ place. f (entry_for es place)) (range_with_len first count)

-- the cell that entries stand for, and the table
abbrev pub cell_of_entries : List PackedEntry → Cell
cell_of_entries es = record { texts = read_from text_in 0 8 es; residues = read_from residue_in 8 8 es }

abbrev pub table_of_entries : List PackedEntry → List (Option ℤ)
table_of_entries es = read_from bound_in 16 81 es

-- an entry of a place, whose bound can stand in a table
pub record IsProper (e : PackedEntry) : Type 0 where
  pub low : e.place < 97
  pub stands : 16 ≤ e.place → FitsNumber (Some e.time)

-- there are eight texts, eight residues, and nine rows of nine bounds
pub record IsFullSize (cell : Cell) (table : List (Option ℤ)) : Type 0 where
  pub texts : length cell.texts ≡ 8
  pub residues : length cell.residues ≡ 8
  pub bounds : length table ≡ 81

-- the entry, if there is one, is what stands at the place
pub record IsEntryAt (cell : Cell) (table : List (Option ℤ)) (place : ℕ) (found : Option PackedEntry) : Type 0 where
  pub place_is : IfSome found (λ e. e.place ≡ place)
  pub text : place < 8 → text_in found ≡ slice_index_or cell.texts place 0
  pub residue : 8 ≤ place → place < 16 → residue_in found ≡ slice_index_or cell.residues (place - 8) (pos 0)
  pub bound : 16 ≤ place → bound_in found ≡ slice_index_or table (place - 16) None

-- the entries stand for the cell and the table
pub record ArePacked (cell : Cell) (table : List (Option ℤ)) (es : List PackedEntry) : Type 0 where
  pub proper : AllByRecursion IsProper es
  pub cell_is : cell_of_entries es ≡ cell
  pub table_is : table_of_entries es ≡ table

-- where the cell and the table are those of some entries, they become those of this entry before them
pub record IsEntryPut (e : PackedEntry) (cell new_cell : Cell) (table new_table : List (Option ℤ)) : Type 0 where
  pub cell_is : (es : List PackedEntry) → cell ≡ cell_of_entries es → new_cell ≡ cell_of_entries (e ∷ es)
  pub table_is : (es : List PackedEntry) → table ≡ table_of_entries es → new_table ≡ table_of_entries (e ∷ es)

-- where the cell is that of some entries, it becomes that of this entry before them
abbrev pub IsPutInCell : PackedEntry → Cell → Cell → Type 0
IsPutInCell e cell new_cell = (es : List PackedEntry) → cell ≡ cell_of_entries es → new_cell ≡ cell_of_entries (e ∷ es)
