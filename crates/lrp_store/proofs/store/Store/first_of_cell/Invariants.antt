-- What was found is held, and not after the tuples of the zones that are after.
use Rattle.std.proofs.Common.{ℕ, ◌⊎◌, List, Option, take, Contains}
use Rattle.std.specs.Prelude.{ℤ}
use Rattle.lrp_zone.specs.Zones.{IsMember}
use Rattle.lrp_store.specs.Stores.{zone_of, tables_at}
use Rattle.lrp_store.specs.Least.{IsFoundSpot, IsNotAfter}
use Rattle.lrp_store.proofs.store.Store.first_of_cell.Given as goal

abbrev pub invariant-loop-bounds : goal.invariant-loop-bounds
invariant-loop-bounds l = record {
  within : (table : List (Option ℤ)) → Contains l.bounds-iterator table → Contains (tables_at l.self l.cell) table;
  found : IsFoundSpot l.self l.found;
  kept : (xs : List ℤ) (ns : List ℕ) → IsNotAfter l.self l.initial.found xs ns → IsNotAfter l.self l.found xs ns;
  after : (table : List (Option ℤ)) (xs : List ℤ) → Contains (tables_at l.self l.cell) table → IsMember (zone_of l.self l.cell table) xs → IsNotAfter l.self l.found xs (take l.self.shape.texts l.cell.texts) ⊎ Contains l.bounds-iterator table;
}
