-- Spans of zones, column by column.
use Rattle.std.specs.Prelude.{◌≡◌, ℕ, ℤ, ◌+◌, ◌<◌, List, Some, Vec, map, length, slice_get, slice_index}
use Rattle.std.specs.Global.{Global}
use Rattle.lrp_theory.specs.Entries.{node}
use Rattle.lrp_zone.specs.Zones.{IsMember, columns_of}
use Rattle.lrp_tables.specs.declared.pieces.Piece.{Piece}
use Rattle.lrp_hulls.specs.Queries.{piece_at}
use Rattle.lrp_hulls.specs.Spans.{IsInHullSpan as IsInSpan, IsInTextSpan, span_at, text_span_at}
use Rattle.lrp_hulls.specs.declared.columns.SpanColumns.{SpanColumns}
use Rattle.lrp_hulls.specs.declared.hull.Hull.{Hull}
use Rattle.lrp_hulls.specs.declared.hull.TextSpan.{TextSpan}
use Rattle.lrp_hulls.specs.declared.span.ColumnSpan.{ColumnSpan}

-- x stands in the column after i at the place n
pub record StandsAt {X : Type 0} (columns : List (Vec X Global)) (i n : ℕ) (x : X) : Type 0 where
  pub column : Vec X Global
  pub is : slice_get columns i ≡ Some column
  pub there : slice_get column.items n ≡ Some x

-- there are so many columns, each with the spans that the hulls have there
pub record AreTimeColumns (hulls : List Hull) (count : ℕ) (columns : List (Vec ColumnSpan Global)) : Type 0 where
  pub size : length columns ≡ count
  pub each : (i : ℕ) (column : Vec ColumnSpan Global) → slice_get columns i ≡ Some column → column.items ≡ map (λ (hull : Hull). span_at hull.times i) hulls

pub record AreTextColumns (hulls : List Hull) (count : ℕ) (columns : List (Vec TextSpan Global)) : Type 0 where
  pub size : length columns ≡ count
  pub each : (i : ℕ) (column : Vec TextSpan Global) → slice_get columns i ≡ Some column → column.items ≡ map (λ (hull : Hull). text_span_at hull.texts i) hulls

-- the values of each zone are in the spans of its columns, and so are its texts
pub record HaveColumnSpans (pieces : List Piece) (spans : SpanColumns) : Type 0 where
  pub times : (i n : ℕ) (span : ColumnSpan) → StandsAt spans.times.items i n span → n < length pieces → i < columns_of (piece_at pieces n).zone → (xs : List ℤ) → IsMember (piece_at pieces n).zone xs → IsInSpan (piece_at pieces n).zone.period span (node xs (i + 1))
  pub texts : (i n : ℕ) (span : TextSpan) → StandsAt spans.texts.items i n span → n < length pieces → IsInTextSpan span (slice_index (piece_at pieces n).cell.texts i)
