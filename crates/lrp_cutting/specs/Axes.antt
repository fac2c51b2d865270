-- The differences of two columns in zones, as windows in order, and the windows that hold others.
use Rattle.std.specs.Prelude.{◌≡◌, ℕ, ℤ, ◌+◌, ◌<◌, ◌≤◌, ◌^◌, List, Option, Some, Contains, AllPairs, length, slice_get}
use Rattle.lrp_theory.specs.Bounds.{Within}
use Rattle.lrp_theory.specs.Entries.{IsSmallClosure, entry}
use Rattle.lrp_matrix.specs.Matrices.{MatrixView}
use Rattle.lrp_matrix.specs.Ranges.{negation}
use Rattle.lrp_zone.specs.Zones.{ZoneView}
use Rattle.lrp_cutting.specs.declared.axes.Axis.{Axis}
use Rattle.lrp_cutting.specs.declared.pairs.NodePair.{NodePair}
use Rattle.lrp_cutting.specs.declared.windows.CutterWindow.{CutterWindow as Window}
use Rattle.lrp_cutting.specs.Cutting.{IsPairOf}
use Rattle.lrp_cutting.specs.Windows.{ReachTo, StartsBy}

-- the window is that of the difference of two columns, between the bounds that a table has on it
pub record IsWindowOfBounds (cells : List (Option ℤ)) (p : NodePair) (w : Window) : Type 0 where
  pub least : w.least ≡ negation (entry cells p.right p.left)
  pub most : w.most ≡ entry cells p.left p.right

-- the window is that of the zone at its place
pub record IsAxisWindow (zones : List ZoneView) (p : NodePair) (w : Window) : Type 0 where
  pub zone : ZoneView
  pub is : slice_get zones w.place ≡ Some zone
  pub ends : IsWindowOfBounds zone.bounds p w

-- the windows are those of the zones before place n
pub record AreAxisWindows (zones : List ZoneView) (p : NodePair) (n : ℕ) (ws : List Window) : Type 0 where
  pub each : (w : Window) → Contains ws w → IsAxisWindow zones p w
  pub whole : (q : ℕ) → q < n → (w : Window) × Contains ws w × (w.place ≡ q)

-- the windows are in order, and no one ends after what is reached
pub record IsInOrder (a : Axis) : Type 0 where
  pub order : AllPairs StartsBy a.windows.items
  pub reached : ReachTo a.windows.items a.reached.items

-- the axis has the windows of the zones in the difference of two of their columns
pub record IsAxisOf (zones : List ZoneView) (a : Axis) : Type 0 where
  pub order : IsInOrder a
  pub windows : AreAxisWindows zones a.pair (length zones) a.windows.items
  pub pair : (z : ZoneView) → Contains zones z → IsPairOf z a.pair

-- there are axes, each with the windows of the zones
pub record AreAxesOf (zones : List ZoneView) (axes : List Axis) : Type 0 where
  pub some : 0 < length axes
  pub each : (a : Axis) → Contains axes a → IsAxisOf zones a

-- window w begins no later than v and ends no sooner
pub record HoldsWindow (v w : Window) : Type 0 where
  pub low : StartsBy w v
  pub high : (x : ℤ) → Within x v.most → Within x w.most

-- some of the windows, with all that hold v
pub record AreHolding (v : Window) (ws some : List Window) : Type 0 where
  pub listed : (w : Window) → Contains some w → Contains ws w
  pub whole : (w : Window) → Contains ws w → HoldsWindow v w → Contains some w

-- two different columns of the matrix, the lesser first, and bounds of at most 2^62
pub record HasPair (m : MatrixView) (p : NodePair) : Type 0 where
  pub rising : p.left < p.right
  pub high : p.right ≤ m.columns
  pub small : IsSmallClosure (m.columns + 1) (2 ^ 62) m.cells

-- each axis is in order and of two columns of the matrix
pub record AreAxesFor (m : MatrixView) (axes : List Axis) : Type 0 where
  pub each : (a : Axis) → Contains axes a → IsInOrder a × HasPair m a.pair

-- the windows are in the difference of the same two columns: one of closed bounds, and one of a zone
pub record AreAlongOneAxis (zones : List ZoneView) (m : MatrixView) (v w : Window) : Type 0 where
  pub pair : NodePair
  pub columns : HasPair m pair
  pub closed : IsWindowOfBounds m.cells pair v
  pub stored : IsAxisWindow zones pair w
