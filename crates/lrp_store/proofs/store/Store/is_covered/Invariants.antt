-- The zone lies within none of those that were looked at, and the others are left.
use Rattle.std.proofs.Common.{◌≡◌, ℕ, ◌<◌, ◌≢◌, drop}
use Rattle.lrp_zone.specs.Pairs.{IsWithin}
use Rattle.lrp_store.specs.Stores.{tables_at}
use Rattle.lrp_store.specs.Tidied.{nth_zone}
use Rattle.lrp_store.proofs.store.Store.is_covered.Given as goal

abbrev pub invariant-loop-j : goal.invariant-loop-j
invariant-loop-j l = record {
  left : l.rest ≡ drop l.j (tables_at l.self l.cell);
  none : (k : ℕ) → k < l.j → k ≢ l.i → IsWithin (nth_zone l.self l.cell (tables_at l.self l.cell) l.i) (nth_zone l.self l.cell (tables_at l.self l.cell) k) → ⊥;
}
