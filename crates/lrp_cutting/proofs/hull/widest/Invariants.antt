-- The greatest bound of the first matrices is found.
use Rattle.std.proofs.Common.{take, ◌+◌}
use Rattle.lrp_cutting.specs.Hulls.{IsWidest}
use Rattle.lrp_cutting.proofs.hull.widest.Given as goal

abbrev pub invariant-loop-matrix : goal.invariant-loop-matrix
invariant-loop-matrix l = IsWidest (take (l.matrix-index + 1) l.matrices) l.i l.j l.widest
