-- The names are those of the time columns so far.
use Rattle.std.proofs.Common.{take}
use Rattle.indexmap.specs.IndexSet.{keys}
use Rattle.lrp_rel.specs.Times.{AreTimesOf}
use Rattle.lrp_rel.proofs.faults.times_of.Given as goal

abbrev pub invariant-loop-column : goal.invariant-loop-column
invariant-loop-column l = AreTimesOf (take l.column-index l.columns) (keys l.times)
