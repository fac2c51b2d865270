-- What was found is held, and not after the tuples of the cells that are after.
use Rattle.std.proofs.Common.{ℕ, ◌⊎◌, List, Contains}
use Rattle.std.specs.Prelude.{ℤ}
use Rattle.lrp_store.specs.Stores.{InStore}
use Rattle.lrp_store.specs.Least.{IsFoundSpot, IsNotAfter}
use Rattle.lrp_store.proofs.EntriesRead.{AreFound, cells_of}
use Rattle.lrp_store.proofs.store.Store.first.Given as goal

abbrev pub invariant-loop-cell : goal.invariant-loop-cell
invariant-loop-cell l = record {
  found : IsFoundSpot l.self l.found;
  lists : AreFound l.self l.cell-iterator;
  after : (xs : List ℤ) (ns : List ℕ) → (h : InStore l.self xs ns) → IsNotAfter l.self l.found xs ns ⊎ Contains (cells_of l.cell-iterator) h.cell;
}
