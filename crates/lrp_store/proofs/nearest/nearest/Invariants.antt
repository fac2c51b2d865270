-- The first values are those of the nearest tuple.
use Rattle.lrp_store.specs.Least.{IsNearestTo}
use Rattle.lrp_store.proofs.nearest.nearest.Given as goal

abbrev pub invariant-loop-i : goal.invariant-loop-i
invariant-loop-i l = IsNearestTo l.zone l.i l.xs
