-- Bounds that zones have in common.
use Rattle.std.specs.Prelude.{◌≡◌, ◌≤◌, ◌^◌, ◌-ℤ◌, ◌≤ℤ◌, ℕ, ℤ, List, Some, All, Contains, nat_abs}
use Rattle.lrp_theory.specs.Entries.{entry, node}
use Rattle.lrp_model.specs.declared.relations.Bound.{Bound}
use Rattle.lrp_zone.specs.Zones.{ZoneView, IsMember, columns_of, reach_of}
use Rattle.lrp_tables.specs.declared.pieces.Piece.{Piece}

-- each zone has so many columns
pub record HaveColumns (columns : ℕ) (pieces : List Piece) : Type 0 where
  pub each : (piece : Piece) → Contains pieces piece → columns_of piece.zone ≡ columns

-- the zone stores this bound on column i minus column j, and it isn't large
pub record IsSmallBound (zone : ZoneView) (i j : ℕ) (most : ℤ) : Type 0 where
  pub small : nat_abs most ≤ 2 ^ 60
  pub stored : entry zone.bounds i j ≡ Some most

-- a bound on column i minus column j that isn't large, and that the tuples of each zone meet
pub record IsMetByAll (pieces : List Piece) (i j : ℕ) (most : ℤ) : Type 0 where
  pub small : nat_abs most ≤ 2 ^ 60
  pub met : (piece : Piece) (xs : List ℤ) → Contains pieces piece → IsMember piece.zone xs → (node xs i -ℤ node xs j) ≤ℤ most

-- such a bound between two of so many columns, or one of them and zero
pub record IsCommonBound (columns : ℕ) (pieces : List Piece) (bound : Bound) : Type 0 where
  pub left : bound.left ≤ columns
  pub right : bound.right ≤ columns
  pub all : IsMetByAll pieces bound.left bound.right bound.most

-- such bounds
abbrev pub AreCommonBounds : ℕ → List Piece → List Bound → Type 0
AreCommonBounds columns pieces bounds = All (IsCommonBound columns pieces) bounds

-- a zone of so many columns and of period 1 whose bounds aren't large, which has the tuples of each zone
pub record IsZoneInCommon (columns : ℕ) (pieces : List Piece) (common : ZoneView) : Type 0 where
  pub count : columns_of common ≡ columns
  pub period : common.period ≡ 1
  pub reach : reach_of common ≤ 2 ^ 60
  pub has : (piece : Piece) (xs : List ℤ) → Contains pieces piece → IsMember piece.zone xs → IsMember common xs
