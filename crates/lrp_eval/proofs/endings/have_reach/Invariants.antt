-- The parts so far have no bound above the reach.
use Rattle.std.proofs.Common.{Contains, take}
use Rattle.lrp_store.specs.Stores.{HasReach}
use Rattle.lrp_tables.specs.declared.table.Table.{Table}
use Rattle.lrp_eval.proofs.endings.have_reach.Given as goal

abbrev pub invariant-loop-part : goal.invariant-loop-part
invariant-loop-part l = (part : Table) → Contains (take l.part-index l.parts) part → HasReach part.store l.reach
