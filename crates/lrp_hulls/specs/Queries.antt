-- What is asked of zones: ranges for the values of their columns, and texts.
use Rattle.std.specs.Prelude.{◌≡◌, ℕ, ℤ, ◌+◌, ◌<◌, ◌≤◌, List, [], Some, None, Contains, length, pos, slice_index, slice_index_or}
use Rattle.lrp_theory.specs.Divides.{Divides}
use Rattle.lrp_theory.specs.Entries.{node}
use Rattle.lrp_zone.specs.Zones.{IsMember, columns_of}
use Rattle.lrp_systems.specs.Windows.{IsResidueWindow}
use Rattle.lrp_tables.specs.declared.pieces.Piece.{Piece}
use Rattle.lrp_hulls.specs.Ranges.{IsInHullRange as IsInRange, hull_range_at as range_at}
use Rattle.lrp_hulls.specs.declared.query.HullQuery.{HullQuery as Query}

-- the zone with the number n
abbrev pub piece_at : List Piece → ℕ → Piece
piece_at pieces n = slice_index_or pieces n (record { cell = record { texts = []; residues = [] }; zone = record { period = 1; residues = []; bounds = [] } })

-- at most eight columns of each kind are spoken of, and each range has a window
pub record IsHullQuery (query : Query) : Type 0 where
  pub columns : query.columns ≤ 8
  pub names : query.names ≤ 8
  pub windows : (i : ℕ) → i < query.columns → IsResidueWindow (range_at query.times i).window

-- the zone has the columns that are spoken of, and the steps of their windows divide its period
pub record CanBeAskedFor (query : Query) (piece : Piece) : Type 0 where
  pub columns : query.columns ≤ columns_of piece.zone
  pub divides : (i : ℕ) → i < query.columns → Divides (pos (range_at query.times i).window.step) (pos piece.zone.period)

-- the zone has the tuple, whose values are in the ranges, and the known texts
pub record IsAskedFor (query : Query) (piece : Piece) (xs : List ℤ) : Type 0 where
  pub member : IsMember piece.zone xs
  pub times : (i : ℕ) → i < query.columns → IsInRange (range_at query.times i) (node xs (i + 1))
  pub texts : (i number : ℕ) → i < query.names → slice_index_or query.texts i None ≡ Some number → slice_index piece.cell.texts i ≡ number

-- the zone with the number n has a tuple that is asked for
pub record IsNear (pieces : List Piece) (query : Query) (n : ℕ) : Type 0 where
  pub low : n < length pieces
  pub can : CanBeAskedFor query (piece_at pieces n)
  pub xs : List ℤ
  pub asked : IsAskedFor query (piece_at pieces n) xs

-- these are numbers of zones, and among them is that of each that has a tuple which is asked for
pub record AreNearHulls (pieces : List Piece) (query : Query) (numbers : List ℕ) : Type 0 where
  pub within : (n : ℕ) → Contains numbers n → n < length pieces
  pub all : (n : ℕ) → IsNear pieces query n → Contains numbers n
