-- Hulls: what zones have in common.
use Rattle.std.specs.Prelude.{◌≡◌, ℕ, ℤ, ◌+◌, ◌<◌, List, [], Contains, length, slice_index, slice_index_or}
use Rattle.lrp_theory.specs.Entries.{node}
use Rattle.lrp_zone.specs.Zones.{ZoneView, IsMember, columns_of}
use Rattle.lrp_tables.specs.declared.pieces.Piece.{Piece}
use Rattle.lrp_hulls.specs.Queries.{piece_at}
use Rattle.lrp_hulls.specs.Spans.{IsInHullSpan as IsInSpan, IsInTextSpan, IsWiderSpan as IsWider, IsWiderText, span_at, text_span_at}
use Rattle.lrp_hulls.specs.declared.hull.Hull.{Hull}
use Rattle.lrp_hulls.specs.declared.hull.TextSpan.{TextSpan}
use Rattle.lrp_hulls.specs.declared.span.ColumnSpan.{ColumnSpan}

-- the values of the zone's tuples are in the spans of their columns
pub record AreSpansOf (zone : ZoneView) (spans : List ColumnSpan) : Type 0 where
  pub each : (i : ℕ) → i < 8 → i < columns_of zone → (xs : List ℤ) → IsMember zone xs → IsInSpan zone.period (span_at spans i) (node xs (i + 1))

-- the numbers of texts are in the spans of their columns
pub record AreTextSpansOf (numbers : List ℕ) (spans : List TextSpan) : Type 0 where
  pub each : (i : ℕ) → i < 8 → IsInTextSpan (text_span_at spans i) (slice_index numbers i)

-- the hull has the zone and its texts
pub record IsHullOf (piece : Piece) (hull : Hull) : Type 0 where
  pub times : AreSpansOf piece.zone hull.times
  pub texts : AreTextSpansOf piece.cell.texts hull.texts

-- each span is wider than the old one
pub record AreWider (old new : List ColumnSpan) : Type 0 where
  pub each : (i : ℕ) → i < 8 → IsWider (span_at old i) (span_at new i)

pub record AreWiderTexts (old new : List TextSpan) : Type 0 where
  pub each : (i : ℕ) → i < 8 → IsWiderText (text_span_at old i) (text_span_at new i)

-- new has each zone that old has
pub record IsWiderHull (old new : Hull) : Type 0 where
  pub covers : (piece : Piece) → IsHullOf piece old → IsHullOf piece new

-- the hull with the number n
abbrev pub hull_at : List Hull → ℕ → Hull
hull_at hulls n = slice_index_or hulls n (record { times = []; texts = [] })

-- there is a hull of each zone, with its number
pub record AreHullsOf (pieces : List Piece) (hulls : List Hull) : Type 0 where
  pub count : length hulls ≡ length pieces
  pub each : (n : ℕ) → n < length pieces → IsHullOf (piece_at pieces n) (hull_at hulls n)

-- each zone's cell has eight numbers of texts
pub record HaveEightTexts (pieces : List Piece) : Type 0 where
  pub each : (piece : Piece) → Contains pieces piece → length piece.cell.texts ≡ 8
