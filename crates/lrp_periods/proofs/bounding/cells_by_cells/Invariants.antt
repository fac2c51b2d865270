-- The choices of the columns so far are counted.
use Rattle.std.proofs.Common.{◌≡◌, ◌*◌, ◌^◌}
use Rattle.std.specs.FinMap as finite
use Rattle.lrp_periods.proofs.bounding.cells_by_cells.Given as goal

abbrev pub invariant-loop-turn : goal.invariant-loop-turn
invariant-loop-turn l = l.bound ≡ finite.len l.table.store.tables * l.ways ^ l.turn
