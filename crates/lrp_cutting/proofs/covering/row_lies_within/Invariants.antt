-- The bounds of the first columns are below.
use Rattle.lrp_cutting.specs.Covering.{IsBelowInRow}
use Rattle.lrp_cutting.proofs.covering.row_lies_within.Given as goal

abbrev pub invariant-loop-right : goal.invariant-loop-right
invariant-loop-right l = IsBelowInRow l.right l.closed.cells l.other.bounds l.left
