-- From where to where the values of one column are in zones, and what of a list of zones is near another one.
use Rattle.std.specs.Prelude.{◌≡◌, ℕ, ℤ, ◌+◌, ◌-◌, ◌<◌, ◌≤◌, List, Option, Some, None, Contains, AllPairs, length, slice_get, slice_index_or, take}
use Rattle.lrp_theory.specs.Bounds.{Within}
use Rattle.lrp_theory.specs.Entries.{node}
use Rattle.lrp_matrix.specs.Ranges.{Above}
use Rattle.lrp_zone.specs.Zones.{ZoneView, IsMember, columns_of}
use Rattle.lrp_store.specs.Settled.{InSome}
use Rattle.lrp_cutting.specs.declared.windows.Line.{Line}
use Rattle.lrp_cutting.specs.declared.windows.CutterWindow.{CutterWindow as Window}
use Rattle.lrp_cutting.specs.Cutting.{HaveCommon}

-- the number x lies between the ends of the window
pub record InCutterWindow (w : Window) (x : ℤ) : Type 0 where
  pub low : Above x w.least
  pub high : Within x w.most

-- each tuple of z has its value in column i between the ends
pub record IsWindowOf (z : ZoneView) (i : ℕ) (w : Window) : Type 0 where
  pub each : (xs : List ℤ) → IsMember z xs → InCutterWindow w (node xs i)

-- no number is at most the end and at least the start
pub record IsBefore (end start : Option ℤ) : Type 0 where
  pub none : (x : ℤ) → Within x end → Above x start → ⊥

-- v begins no later than w
pub record StartsBy (v w : Window) : Type 0 where
  pub each : (x : ℤ) → Above x w.least → Above x v.least

-- the window is that of the zone at its place in column i
pub record IsWindowIn (zones : List ZoneView) (i : ℕ) (w : Window) : Type 0 where
  pub zone : ZoneView
  pub is : slice_get zones w.place ≡ Some zone
  pub window : IsWindowOf zone i w

-- the windows are those of the zones before place n in column i
pub record AreWindowsTo (zones : List ZoneView) (i n : ℕ) (ws : List Window) : Type 0 where
  pub each : (w : Window) → Contains ws w → IsWindowIn zones i w
  pub whole : (p : ℕ) → p < n → (w : Window) × Contains ws w × (w.place ≡ p)

-- e is the end of the last window where others end with ends, or no window ends after it
pub record IsNextEnd (ends : List (Option ℤ)) (w : Window) (e : Option ℤ) : Type 0 where
  pub own : (x : ℤ) → Within x w.most → Within x e
  pub last : 0 < length ends → (x : ℤ) → Within x (slice_index_or ends (length ends - 1) None) → Within x e

-- no window ends after the end at its own place or a later one
pub record ReachTo (ws : List Window) (ends : List (Option ℤ)) : Type 0 where
  pub count : length ends ≡ length ws
  pub each : (j : ℕ) → j < length ends → (w : Window) → Contains (take (j + 1) ws) w → (x : ℤ) → Within x w.most → Within x (slice_index_or ends j None)

-- the windows are in order, and no one ends after what is reached
pub record IsInLine (l : Line) : Type 0 where
  pub order : AllPairs StartsBy l.windows.items
  pub reached : ReachTo l.windows.items l.reached.items

-- the line has the windows of the zones in one of their columns
pub record IsLineOf (zones : List ZoneView) (l : Line) : Type 0 where
  pub some : 0 < length zones
  pub line : IsInLine l
  pub windows : AreWindowsTo zones l.column (length zones) l.windows.items
  pub column : (z : ZoneView) → Contains zones z → l.column ≤ columns_of z

-- the windows of each line are in order, and those of a column of z
pub record AreLinesFor (z : ZoneView) (lines : List Line) : Type 0 where
  pub each : (l : Line) → Contains lines l → IsInLine l × (l.column ≤ columns_of z)

-- some of the windows, with all in which a tuple of z has its value in column i
pub record AreNearCutters (z : ZoneView) (i : ℕ) (ws near : List Window) : Type 0 where
  pub listed : (w : Window) → Contains near w → Contains ws w
  pub whole : (w : Window) (xs : List ℤ) → Contains ws w → IsMember z xs → InCutterWindow w (node xs i) → Contains near w

-- windows of zones of the list, one of each that has a tuple in common with z
pub record AreNearIn (z : ZoneView) (zones : List ZoneView) (near : List Window) : Type 0 where
  pub listed : (w : Window) → Contains near w → w.place < length zones
  pub whole : (p : ℕ) (y : ZoneView) → slice_get zones p ≡ Some y → HaveCommon z y → (w : Window) × Contains near w × (w.place ≡ p)

-- each line has the windows of the zones in one of their columns
pub record HaveLines (zones : List ZoneView) (lines : List Line) : Type 0 where
  pub each : (l : Line) → Contains lines l → IsLineOf zones l

-- some of the cutters, with each that has a tuple in common with z
pub record AreThoseMet (z : ZoneView) (cutters met : List ZoneView) : Type 0 where
  pub listed : (w : ZoneView) → Contains met w → Contains cutters w
  pub whole : (xs : List ℤ) → IsMember z xs → InSome cutters xs → InSome met xs
