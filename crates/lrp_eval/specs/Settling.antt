-- Stores whose cells are settled.
use Rattle.std.specs.Prelude.{◌≡◌, ◌+◌, ◌*◌, ◌≤◌, ◌^◌, [], length, Contains}
use Rattle.lrp_model.specs.declared.tuples.Cell.{Cell}
use Rattle.lrp_zone.specs.Zones.{ZoneView, columns_of, reach_of}
use Rattle.lrp_store.specs.Stores.{StoreView, IsStore, tables_at, zones_at}
use Rattle.lrp_cutting.specs.Settling.{IsSettlement}

-- each zone has room for the bounds of a settlement
abbrev pub CanSettle : StoreView → Type 0
CanSettle s = (cell : Cell) (z : ZoneView) → Contains (zones_at s cell) z → columns_of z * reach_of z + z.period ≤ 2 ^ 62

-- each cell has at most one zone
abbrev pub HasSingleZones : StoreView → Type 0
HasSingleZones s = (cell : Cell) → length (tables_at s cell) ≤ 1

-- the zones of each cell are a settlement of the old ones, and no other cell is held
pub record IsSettledStore (old new : StoreView) : Type 0 where
  pub valid : IsStore new
  pub shape : new.shape ≡ old.shape
  pub period_is : new.period ≡ old.period
  pub cells : (cell : Cell) (z : ZoneView) → Contains (zones_at old cell) z → IsSettlement z (zones_at old cell) (zones_at new cell)
  pub only : (cell : Cell) → tables_at old cell ≡ [] → tables_at new cell ≡ []
