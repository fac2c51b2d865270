-- The zones of a store as lists that are read one after another.
use Rattle.std.specs.Prelude.{ℕ, ℤ, ◌≤◌, List, Option, map, take, length, All}
use Rattle.std.specs.FinMap as finite
use Rattle.lrp_model.specs.declared.tuples.Cell.{Cell}
use Rattle.lrp_zone.specs.Zones.{ZoneView, IsZone}
use Rattle.lrp_store.specs.Stores.{StoreView, zones_at}

-- the zones of this period and these residues with these tables of stored bounds
abbrev pub zones_with : ℕ → List ℤ → List (List (Option ℤ)) → List ZoneView
zones_with period residues tables = map (λ table. record { period = period; residues = residues; bounds = table }) tables

-- so many of the residues are there, and each table is one of a zone
pub record AreZonesWith (period times : ℕ) (residues : List ℤ) (tables : List (List (Option ℤ))) : Type 0 where
  pub columns : times ≤ length residues
  pub zones : All IsZone (zones_with period (take times residues) tables)

-- each cell with the zones of its tables
abbrev pub entries_with : ℕ → ℕ → List (Cell × List (List (Option ℤ))) → List (Cell × List ZoneView)
entries_with period times lists = map (λ e. (e.0, zones_with period (take times e.0.residues) e.1)) lists

-- each table is one of a zone of its cell
abbrev pub AreEntriesWith : ℕ → ℕ → List (Cell × List (List (Option ℤ))) → Type 0
AreEntriesWith period times lists = All (λ e. AreZonesWith period times e.0.residues e.1) lists

-- the cells of a store, ascending, each with its zones
abbrev pub entries_of : StoreView → List (Cell × List ZoneView)
entries_of s = map (λ cell. (cell, zones_at s cell)) (finite.keys s.tables)
