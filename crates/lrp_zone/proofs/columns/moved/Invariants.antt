-- The bounds of the nodes so far stand at their new places, and nothing else does.
use Rattle.lrp_zone.specs.Spread.{IsSpreadTo}
use Rattle.lrp_zone.proofs.columns.moved.Given as goal

abbrev pub invariant-loop-j : goal.invariant-loop-j
invariant-loop-j l = IsSpreadTo l.places l.bounds l.nodes l.i l.j l.out

abbrev pub invariant-loop-i : goal.invariant-loop-i
invariant-loop-i l = IsSpreadTo l.places l.bounds l.nodes l.i 0 l.out
