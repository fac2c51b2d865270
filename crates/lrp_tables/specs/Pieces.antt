-- The zones of a store, one after another, each with its cell.
use Rattle.std.specs.Prelude.{◌≡◌, ℕ, ℤ, ◌<◌, List, ◌++◌, Option, map, drop, take, length, All, Contains}
use Rattle.std.specs.List.{flat_map}
use Rattle.lrp_model.specs.declared.tuples.Cell.{Cell}
use Rattle.lrp_model.specs.declared.tuples.Shape.{Shape}
use Rattle.lrp_zone.specs.Zones.{ZoneView}
use Rattle.lrp_store.specs.Stores.{StoreView, InStore, IsCellOf, zone_of, tables_at}
use Rattle.lrp_store.specs.Growing.{IsTupleOf}
use Rattle.lrp_tables.specs.declared.pieces.Piece.{Piece}

-- a zone of a cell, with the cell
abbrev pub piece_of : StoreView → Cell → List (Option ℤ) → Piece
piece_of s cell table = record { cell = cell; zone = zone_of s cell table }

-- the zones of a cell, in order
abbrev pub pieces_at : StoreView → Cell → List Piece
pieces_at s cell = map (piece_of s cell) (tables_at s cell)

-- those of a cell from the number `next` on, and after them those of other cells
abbrev pub pieces_left : StoreView → Cell → ℕ → List Cell → List Piece
pieces_left s cell next cells = drop next (pieces_at s cell) ++ flat_map (pieces_at s) cells

-- zones of a cell, each with the cell
abbrev pub pieces_in : Cell → List ZoneView → List Piece
pieces_in cell zones = map (λ zone. record { cell = cell; zone = zone }) zones

-- zones of cells
abbrev pub pieces_of : List (Cell × List ZoneView) → List Piece
pieces_of entries = flat_map (λ e. pieces_in e.0 e.1) entries

-- zones of a cell, and after them those of other cells
abbrev pub pieces_from : Cell → List ZoneView → List (Cell × List ZoneView) → List Piece
pieces_from cell zones entries = pieces_in cell zones ++ pieces_of entries

-- each cell has some zone
abbrev pub HaveZones : List (Cell × List ZoneView) → Type 0
HaveZones entries = All (λ e. 0 < length e.1) entries

-- the store has the zone in its cell
pub record IsPieceOf (s : StoreView) (piece : Piece) : Type 0 where
  pub table : List (Option ℤ)
  pub held : Contains (tables_at s piece.cell) table
  pub zone : piece.zone ≡ zone_of s piece.cell table

-- the tuples of a zone, with the first n texts of its cell
abbrev pub InPiece : ℕ → Piece → List ℤ → List ℕ → Type 0
InPiece n piece = IsTupleOf piece.zone (take n piece.cell.texts)

-- some zone of the list has the tuple
pub record InPieces (n : ℕ) (pieces : List Piece) (times : List ℤ) (texts : List ℕ) : Type 0 where
  pub piece : Piece
  pub listed : Contains pieces piece
  pub inside : InPiece n piece times texts

-- these are the zones of the store
pub record ArePieces (s : StoreView) (pieces : List Piece) : Type 0 where
  pub each : (piece : Piece) → Contains pieces piece → IsPieceOf s piece
  pub all : (times : List ℤ) (texts : List ℕ) → InStore s times texts → InPieces s.shape.texts pieces times texts

-- the zone has the residues of its cell, which is of this shape and period
pub record FitsCell (shape : Shape) (period : ℕ) (piece : Piece) : Type 0 where
  pub cell : IsCellOf shape period piece.cell
  pub period_is : piece.zone.period ≡ period
  pub residues : piece.zone.residues ≡ take shape.times piece.cell.residues
