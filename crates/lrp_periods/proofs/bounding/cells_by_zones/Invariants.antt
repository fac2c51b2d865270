-- The zones that are no more left are counted.
use Rattle.std.proofs.Common.{◌≤◌}
use Rattle.lrp_model.specs.declared.tuples.Cell.{Cell}
use Rattle.lrp_tables.specs.Pieces.{pieces_from, pieces_of}
use Rattle.lrp_periods.proofs.WindowLaws.{IsCounting}
use Rattle.lrp_periods.proofs.bounding.cells_by_zones.Given as goal

abbrev pub invariant-loop-cell : goal.invariant-loop-cell
invariant-loop-cell l = record {
  within : l.total ≤ l.cap;
  counting : IsCounting l.table.store l.period l.total (pieces_of l._cell-iterator);
}

abbrev pub invariant-loop-zone : goal.invariant-loop-zone
invariant-loop-zone l = record {
  within : l.total ≤ l.cap;
  counting : (cell : Cell) × IsCounting l.table.store l.period l.total (pieces_from cell l.zone-iterator l._cell-iterator);
}
