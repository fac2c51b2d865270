-- What is left of the first cells was added.
use Rattle.std.proofs.Common.{◌≡◌, ◌≢◌, ℕ, ◌+◌, ◌*◌, Contains}
use Rattle.std.specs.FinMap as finite
use Rattle.lrp_model.specs.declared.tuples.Cell.{Cell}
use Rattle.lrp_store.specs.Stores.{HasReach, IsStore}
use Rattle.lrp_minus.specs.Cutters.{IsSpared}
use Rattle.lrp_tables.proofs.Gathering.{IsGathering}
use Rattle.lrp_minus.proofs.SparedLaws.{InCells}
use Rattle.std.specs.Prelude.{AllPairs}
use Rattle.lrp_minus.specs.Counts.{GrowsIn, HasAtMost, cell_modulo, most_spared}
use Rattle.lrp_minus.proofs.Growth.{IsCellBefore}
use Rattle.lrp_minus.proofs.differences.add_difference.Given as goal

abbrev pub invariant-loop-cell : goal.invariant-loop-cell
invariant-loop-cell l = record {
  valid : IsStore l.out;
  shape : l.out.shape ≡ l.initial.out.shape;
  period : l.out.period ≡ l.initial.out.period;
  within : (cell : Cell) → Contains l.cell-iterator cell → Contains (finite.keys l.difference.left.now.tables) cell;
  apart : AllPairs ◌≢◌ l.cell-iterator;
  few : (n : ℕ) → HasAtMost n l.difference.right.now → GrowsIn (IsCellBefore l.difference.left.now l.cell-iterator) (λ cell. most_spared l.difference.left.now n (cell_modulo l.difference.left.now.period cell)) l.initial.out l.out;
  gathering : (high : ℕ) → HasReach l.difference.left.now high → HasReach l.difference.right.now high → IsGathering (IsSpared l.difference.places.now l.difference.left.now l.difference.right.now) (InCells l.difference.left.now l.cell-iterator) l.difference.cap (high + 2 * l.initial.out.period) l.initial.out l.out;
}
