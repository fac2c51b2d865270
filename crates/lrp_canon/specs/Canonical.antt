-- The canonical store of a set of one time column.
use Rattle.std.specs.Prelude.{◌≡◌, ℕ, ◌-◌, ◌^◌, ◌<◌, ◌≤◌, length, Contains}
use Rattle.lrp_model.specs.declared.tuples.Cell.{Cell}
use Rattle.lrp_zone.specs.Zones.{ZoneView}
use Rattle.lrp_store.specs.Least.{HasRoom}
use Rattle.lrp_store.specs.Settled.{AreSettled}
use Rattle.lrp_store.specs.Stores.{StoreView, IsStore, InStore, HasReach, HoldsJust, tables_at, zone_count, zones_at}
use Rattle.lrp_spans.specs.Groups.{HoldsNumber}
use Rattle.lrp_canon.specs.declared.edges.Periods.{Periods}
use Rattle.lrp_canon.specs.Rows.{IsLeastPeriod, HasRowCount}

-- one time column, and room after each stored bound for the period
pub record CanMakeCanonical (s : StoreView) : Type 0 where
  pub column : s.shape.times ≡ 1
  pub reach : HasReach s (2 ^ 62 - s.period)

-- the period is the least one of the set, and the zones of each cell are the maximal intervals, ascending
pub record IsCanonical (s : StoreView) : Type 0 where
  pub valid : IsStore s
  pub column : s.shape.times ≡ 1
  pub period : IsLeastPeriod (HoldsNumber s) s.period
  pub settled : (cell : Cell) (z : ZoneView) → Contains (zones_at s cell) z → AreSettled z (zones_at s cell)

-- the canonical store of the same set, with the room that its text asks for
pub record IsCanonicalOf (s made : StoreView) : Type 0 where
  pub shape : made.shape ≡ s.shape
  pub same : HoldsJust (InStore s) made
  pub canonical : IsCanonical made
  pub room : HasRoom made

-- the canonical store has so many zones: the set has so many maximal rows, and each canonical store of it so many zones
pub record HasCanonicalZones (s : StoreView) (count : ℕ) : Type 0 where
  pub rows : HasRowCount (HoldsNumber s) count
  pub zones : (made : StoreView) → IsCanonicalOf s made → zone_count made ≡ count

-- the same with more than most of them
abbrev pub HasMoreRows : StoreView → ℕ → Type 0
HasMoreRows s most = (count : ℕ) × (most < count) × HasCanonicalZones s count

-- each cell has at most one zone, and the least of the periods is the whole one
pub record StandsAlready (s : StoreView) (periods : Periods) : Type 0 where
  pub single : (cell : Cell) → length (tables_at s cell) ≤ 1
  pub least : periods.least ≡ periods.whole
