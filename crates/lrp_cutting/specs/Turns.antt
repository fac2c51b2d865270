-- Zones of one cell that come one after another, in the order by the first value in which two tuples differ.
use Rattle.std.specs.Prelude.{◌≡◌, ℕ, ℤ, ◌+◌, ◌<◌, List, Some, Contains, length, slice_get, pos, ◌-ℤ◌, ◌<ℤ◌}
use Rattle.lrp_theory.specs.Divides.{Divides}
use Rattle.lrp_theory.specs.Entries.{node}
use Rattle.lrp_zone.specs.Order.{at, IsAfter}
use Rattle.lrp_zone.specs.Zones.{ZoneView, IsZone, IsMember, columns_of}
use Rattle.lrp_cutting.specs.declared.windows.CutterWindow.{CutterWindow as Window}

-- each tuple of w comes after each of v
pub record LiesBefore (v w : ZoneView) : Type 0 where
  pub first : IsZone v
  pub second : IsZone w
  pub after : (xs ys : List ℤ) → IsMember v xs → IsMember w ys → IsAfter (columns_of v) xs ys

-- the value has the residue of the first column, and lies above that column's values in v and below those in w
pub record LiesBetween (v w : ZoneView) (value : ℤ) : Type 0 where
  pub fits : Divides (pos v.period) (value -ℤ node v.residues 1)
  pub above : (xs : List ℤ) → IsMember v xs → at xs 0 <ℤ value
  pub below : (ys : List ℤ) → IsMember w ys → value <ℤ at ys 0

-- some value does
abbrev pub HaveValueBetween : ZoneView → ZoneView → Type 0
HaveValueBetween v w = (value : ℤ) × LiesBetween v w value

-- both windows have this value alone
pub record HaveOneValue (v w : Window) : Type 0 where
  pub value : ℤ
  pub low : v.least ≡ Some value
  pub high : v.most ≡ Some value
  pub other_low : w.least ≡ Some value
  pub other_high : w.most ≡ Some value

-- v and w stand side by side at a place of the list
pub record AreSideBySide (zones : List ZoneView) (place : ℕ) (v w : ZoneView) : Type 0 where
  pub first : slice_get zones place ≡ Some v
  pub second : slice_get zones (place + 1) ≡ Some w

-- each of the first n zones comes before the next one of them
pub record AreInTurnTo (zones : List ZoneView) (n : ℕ) : Type 0 where
  pub each : (place : ℕ) (v w : ZoneView) → place + 1 < n → AreSideBySide zones place v w → LiesBefore v w

-- some value of the first column lies between two of the first n zones that stand side by side
pub record ArePartedTo (zones : List ZoneView) (n : ℕ) : Type 0 where
  pub place : ℕ
  pub inside : place + 1 < n
  pub first : ZoneView
  pub second : ZoneView
  pub beside : AreSideBySide zones place first second
  pub between : HaveValueBetween first second

-- the zones are those at the places of the windows
pub record AreAtPlaces (zones : List ZoneView) (ws : List Window) (made : List ZoneView) : Type 0 where
  pub count : length made ≡ length ws
  pub each : (k : ℕ) (w : Window) → slice_get ws k ≡ Some w → slice_get made k ≡ slice_get zones w.place

-- each of the zones comes before the next one, and some value of the first column lies between two of them
pub record StandApart (zones : List ZoneView) : Type 0 where
  pub turns : AreInTurnTo zones (length zones)
  pub parted : ArePartedTo zones (length zones)

-- the zones of the order are some of the zones, and each of these has a place of its own in it
pub record IsReordered (zones order : List ZoneView) : Type 0 where
  pub listed : (z : ZoneView) → Contains order z → Contains zones z
  pub place : (i : ℕ) (z : ZoneView) → slice_get zones i ≡ Some z → (k : ℕ) × (slice_get order k ≡ Some z)
  pub own : (i j : ℕ) (v w : ZoneView) (a : slice_get zones i ≡ Some v) (b : slice_get zones j ≡ Some w) → (place i v a).0 ≡ (place j w b).0 → i ≡ j

-- in some order the zones stand apart
pub record AreZonesApart (zones : List ZoneView) : Type 0 where
  pub order : List ZoneView
  pub reordered : IsReordered zones order
  pub apart : StandApart order
