-- Zones of a list that lie within others of it, and those that are left out so that none does.
use Rattle.std.specs.Prelude.{◌≡◌, ◌≢◌, ℕ, ℤ, ◌+◌, ◌*◌, ◌<◌, ◌≤◌, ◌^◌, Bool, true, List, Option, Some, Contains, length, slice_get}
use Rattle.lrp_theory.specs.Entries.{IsBelow, entry}
use Rattle.lrp_matrix.specs.Matrices.{MatrixView}
use Rattle.lrp_zone.specs.Zones.{ZoneView, IsZone, IsMember, columns_of, reach_of}
use Rattle.lrp_zone.specs.Pairs.{IsWithin}
use Rattle.lrp_cutting.specs.Differences.{AreOfCell}
use Rattle.lrp_cutting.specs.Hulls.{IsClosureOf}

-- the zone at a place is left out
abbrev pub IsLeftOut : List Bool → ℕ → Type 0
IsLeftOut out place = slice_get out place ≡ Some true

-- z stands at a place and stays: it is not left out so far
pub record IsStaying (zones : List ZoneView) (out : List Bool) (place : ℕ) (z : ZoneView) : Type 0 where
  pub is : slice_get zones place ≡ Some z
  pub stays : IsLeftOut out place → ⊥

-- the zone at a place lies within the one at another place, which stays
pub record IsCoveredBy (zones : List ZoneView) (out : List Bool) (place other : ℕ) : Type 0 where
  pub apart : other ≢ place
  pub zone : ZoneView
  pub is : slice_get zones place ≡ Some zone
  pub holder : ZoneView
  pub stays : IsStaying zones out other holder
  pub within : IsWithin zone holder

-- the zone at a place lies within one at another place that stays
abbrev pub IsCoveredBySome : List ZoneView → List Bool → ℕ → Type 0
IsCoveredBySome zones out place = (other : ℕ) × IsCoveredBy zones out place other

-- off the diagonal the bound of a at a place is at most that of b
abbrev pub IsBelowAt : List (Option ℤ) → List (Option ℤ) → ℕ → ℕ → Type 0
IsBelowAt a b i j = i ≢ j → IsBelow (entry a i j) (entry b i j)

-- and at each place of one row before column n
pub record IsBelowInRow (n : ℕ) (a b : List (Option ℤ)) (i : ℕ) : Type 0 where
  pub each : (j : ℕ) → j < n → IsBelowAt a b i j

-- of the first n zones it is told which are left out: each tuple is in one that stays, and of these n none that stays lies within another one
pub record AreLeftOut (zones : List ZoneView) (n : ℕ) (out : List Bool) : Type 0 where
  pub count : length out ≡ n
  pub whole : (z : ZoneView) (xs : List ℤ) → Contains zones z → IsMember z xs → (place : ℕ) × (w : ZoneView) × IsStaying zones out place w × IsMember w xs
  pub free : (place : ℕ) → place < n → (IsLeftOut out place → ⊥) → IsCoveredBySome zones out place → ⊥

-- zones of one cell with columns, whose closed bounds are of at most 2^62
pub record AreInOneCell (zones : List ZoneView) : Type 0 where
  pub some : 0 < length zones
  pub columns : (z : ZoneView) → Contains zones z → 0 < columns_of z
  pub valid : (z : ZoneView) → Contains zones z → IsZone z
  pub cells : (z : ZoneView) → Contains zones z → AreOfCell z zones
  pub room : (z : ZoneView) → Contains zones z → columns_of z * reach_of z ≤ 2 ^ 62

-- m has the closed bounds of the zone at a place
pub record IsClosureAt (zones : List ZoneView) (place : ℕ) (m : MatrixView) : Type 0 where
  pub zone : ZoneView
  pub is : slice_get zones place ≡ Some zone
  pub closure : IsClosureOf zone m
