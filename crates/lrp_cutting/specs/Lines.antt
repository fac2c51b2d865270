-- Cells of one column, settled from one store to another.
use Rattle.std.specs.Prelude.{◌≡◌, ℕ, ℤ, ◌+◌, ◌^◌, ◌≤◌, List, [], ◌∷◌, Contains}
use Rattle.lrp_model.specs.declared.tuples.Cell.{Cell}
use Rattle.lrp_zone.specs.Zones.{ZoneView, IsZone, columns_of, reach_of}
use Rattle.lrp_store.specs.Settled.{InSome}
use Rattle.lrp_store.specs.Stores.{StoreView}
use Rattle.lrp_cutting.specs.Differences.{AreOfCell}
use Rattle.lrp_cutting.specs.declared.intervals.Interval.{Interval}
use Rattle.lrp_cutting.specs.Intervals.{AreMerged, HasSmallEnds, InInterval, IsInterval, IsIntervalZone}
use Rattle.lrp_cutting.specs.Settling.{AddsZones}

-- zones of the cell of z, which has one column; their bounds leave room for the period
pub record AreOnLine (z : ZoneView) (zones : List ZoneView) : Type 0 where
  pub column : columns_of z ≡ 1
  pub valid : (w : ZoneView) → Contains zones w → IsZone w
  pub cell : AreOfCell z zones
  pub room : (w : ZoneView) → Contains zones w → reach_of w + w.period ≤ 2 ^ 62

-- intervals of the cell that have the numbers of the zones, and no greater ends
pub record HaveNumbers (z : ZoneView) (zones : List ZoneView) (vs : List Interval) : Type 0 where
  pub intervals : (v : Interval) → Contains vs v → IsInterval z v
  pub to : (x : ℤ) → InInterval z vs x → InSome zones (x ∷ [])
  pub from : (x : ℤ) → InSome zones (x ∷ []) → InInterval z vs x
  pub small : (h : ℕ) → ((w : ZoneView) → Contains zones w → reach_of w ≤ h) → (v : Interval) → Contains vs v → HasSmallEnds h v

-- the zone of the interval is appended to the cell's list
pub record AddsSpan (cell : Cell) (z : ZoneView) (v : Interval) (old new : StoreView) : Type 0 where
  pub span : ZoneView
  pub is : IsIntervalZone z v span
  pub adds : AddsZones cell (span ∷ []) old new

-- zones that hold the numbers of the intervals, ascending and apart, are appended to the cell's list
pub record AddsMerged (cell : Cell) (z : ZoneView) (vs : List Interval) (old new : StoreView) : Type 0 where
  pub zones : List ZoneView
  pub adds : AddsZones cell zones old new
  pub merged : AreMerged z vs zones
