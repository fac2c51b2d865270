-- A list of zones without those that lie within another one.
use Rattle.std.specs.Prelude.{◌≡◌, ◌≢◌, ℕ, ℤ, ◌<◌, List, [], length, Option, slice_index_or}
use Rattle.lrp_model.specs.declared.tuples.Cell.{Cell}
use Rattle.lrp_zone.specs.Zones.{ZoneView}
use Rattle.lrp_zone.specs.Pairs.{IsWithin}
use Rattle.lrp_store.specs.Stores.{StoreView, zone_of, tables_at}

-- the zone with the number k in a list of a cell's tables; only numbers of zones are asked for
abbrev pub nth_zone : StoreView → Cell → List (List (Option ℤ)) → ℕ → ZoneView
nth_zone s cell tables k = zone_of s cell (slice_index_or tables k [])

-- the zone with the number i lies within another one of the cell
pub record IsCovered (s : StoreView) (cell : Cell) (i : ℕ) : Type 0 where
  pub place : ℕ
  pub low : place < length (tables_at s cell)
  pub other : place ≢ i
  pub within : IsWithin (nth_zone s cell (tables_at s cell) i) (nth_zone s cell (tables_at s cell) place)

-- new has some of the zones of old, in their order; each of old lies within one of new, and none of new lies within another
pub record IsTidied (s : StoreView) (cell : Cell) (old new : List (List (Option ℤ))) : Type 0 where
  pub place : ℕ → ℕ
  pub rising : (a b : ℕ) → a < b → place a < place b
  pub inside : (k : ℕ) → k < length new → place k < length old
  pub same : (k : ℕ) → k < length new → slice_index_or new k [] ≡ slice_index_or old (place k) []
  pub covered : (k : ℕ) → k < length old → (m : ℕ) × (m < length new) × IsWithin (nth_zone s cell old k) (nth_zone s cell new m)
  pub apart : (a b : ℕ) → a < length new → b < length new → a ≢ b → IsWithin (nth_zone s cell new a) (nth_zone s cell new b) → ⊥
