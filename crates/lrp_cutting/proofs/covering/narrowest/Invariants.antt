-- The narrowest axis so far is one of them.
use Rattle.std.specs.Prelude.{Contains}
use Rattle.lrp_cutting.proofs.covering.narrowest.Given as goal

abbrev pub invariant-loop-axis : goal.invariant-loop-axis
invariant-loop-axis l = Contains l.axes l.narrowest
