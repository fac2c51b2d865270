-- The zones that were looked at lie within no other, and each old one lies within one that is left.
use Rattle.std.proofs.Common.{◌≡◌, ◌≢◌, ◌+◌, ◌-◌, length}
use Rattle.std.specs.FinMap as finite
use Rattle.lrp_model.specs.declared.tuples.Cell.{Cell}
use Rattle.lrp_store.specs.Stores.{tables_at}
use Rattle.lrp_store.proofs.Tidying.{IsTidiedTo}
use Rattle.lrp_store.proofs.store.Store.tidy.Given as goal

abbrev pub invariant-loop-i : goal.invariant-loop-i
invariant-loop-i l = record {
  tidied : IsTidiedTo l.initial.self l.cell (tables_at l.initial.self l.cell) (tables_at l.self l.cell) l.i;
  others : (other : Cell) → other ≢ l.cell → finite.get l.self.tables other ≡ finite.get l.initial.self.tables other;
  rest : l.self ≡ record l.initial.self { tables = l.self.tables; spare = l.self.spare };
  spare : l.self.spare + length (tables_at l.self l.cell) ≡ l.initial.self.spare + length (tables_at l.initial.self l.cell);
}

abbrev pub decreases-loop-i : goal.decreases-loop-i
decreases-loop-i l = length (tables_at l.self l.cell) - l.i
