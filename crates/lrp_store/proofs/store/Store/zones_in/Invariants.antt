-- The zones so far, and those of the tables that are left.
use Rattle.std.proofs.Common.{◌≡◌, ◌++◌, List, Option, Contains}
use Rattle.std.specs.Prelude.{ℤ, map}
use Rattle.lrp_store.specs.Stores.{zone_of, zones_at, tables_at}
use Rattle.lrp_store.proofs.store.Store.zones_in.Given as goal

abbrev pub invariant-loop-bounds : goal.invariant-loop-bounds
invariant-loop-bounds l = record {
  within : (table : List (Option ℤ)) → Contains l.bounds-iterator table → Contains (tables_at l.self l.cell) table;
  read : l.made ++ map (zone_of l.self l.cell) l.bounds-iterator ≡ zones_at l.self l.cell;
}
