-- The parts so far have whole cells.
use Rattle.std.proofs.Common.{Contains, take}
use Rattle.lrp_tables.specs.declared.table.Table.{Table}
use Rattle.lrp_periods.specs.Sieves.{HasWholeCells}
use Rattle.lrp_periods.proofs.sieves.are_whole.Given as goal

abbrev pub invariant-loop-part : goal.invariant-loop-part
invariant-loop-part l = (part : Table) → Contains (take l.part-index l.parts) part → HasWholeCells part.store
