-- Stores as lists of zones, each with its cell.
use Rattle.std.specs.Prelude.{◌≡◌, ℕ, ℤ, ◌≤◌, List, [], ◌∷◌, take, Option, IsSome, Contains, option_map}
use Rattle.std.specs.FinMap as finite
use Rattle.lrp_model.specs.declared.tuples.Shape.{Shape}
use Rattle.lrp_model.specs.declared.tuples.Cell.{Cell}
use Rattle.lrp_zone.specs.Zones.{IsZone}
use Rattle.lrp_slots.specs.Lists.{cell_cmp, list_at}
use Rattle.lrp_store.specs.Stores.{InStore, IsCellOf, StoreView, tables_at}
use Rattle.lrp_tables.specs.Pieces.{FitsCell, IsPieceOf}
use Rattle.lrp_tables.specs.declared.pieces.Piece.{Piece}
use Rattle.std.specs.List.{AllByRecursion}
use Rattle.lrp_packed.specs.Entries.{CellZone}
use Rattle.lrp_packed.specs.Leading.{IsFirstSpot, spot_in}

-- the zone has tuples of the shape in cells of the period
pub record CanBeUnpacked (shape : Shape) (period : ℕ) (z : CellZone) : Type 0 where
  pub times : shape.times ≤ 8
  pub cell : IsCellOf shape period z.0
  pub zone : IsZone (record { period = period; residues = take shape.times z.0.residues; bounds = z.1 })

-- the zone with its cell
abbrev pub unpacked : Shape → ℕ → CellZone → Piece
unpacked shape period z = record { cell = z.0; zone = record { period = period; residues = take shape.times z.0.residues; bounds = z.1 } }

-- the zones by their cells
abbrev pub tables_of : List CellZone → finite.FinMap cell_cmp (List (List (Option ℤ)))
tables_of [] = finite.empty
tables_of (z ∷ zs) = finite.insert (tables_of zs) z.0 (z.1 ∷ list_at (tables_of zs) z.0)

abbrev pub store_of : Shape → ℕ → List CellZone → StoreView
store_of shape period zs = record { shape = shape; period = period; tables = tables_of zs; spare = 0 }

-- each piece is a zone with the residues of its cell, and the store's period
abbrev pub AllFit : StoreView → Type 0
AllFit s = (piece : Piece) → IsPieceOf s piece → IsZone piece.zone × FitsCell s.shape s.period piece

-- new has the cells, the zones and the tuples of old
pub record HasSame (old new : StoreView) : Type 0 where
  pub shape : new.shape ≡ old.shape
  pub period : new.period ≡ old.period
  pub cells : (cell : Cell) → IsSome (finite.get new.tables cell) → IsSome (finite.get old.tables cell)
  pub zones : (cell : Cell) (table : List (Option ℤ)) → Contains (tables_at new cell) table → Contains (tables_at old cell) table
  pub tuples : (times : List ℤ) (texts : List ℕ) → InStore old times texts → InStore new times texts

-- the zones can be unpacked, and the first spot is packed beside them
pub record ArePackedWith (shape : Shape) (period : ℕ) (zs : List CellZone) (first : Option CellZone) : Type 0 where
  pub zones : AllByRecursion (CanBeUnpacked shape period) zs
  pub first_is : IsFirstSpot (store_of shape period zs) (option_map spot_in first)
