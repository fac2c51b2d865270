-- The first values are the nearest of their residues.
use Rattle.lrp_store.proofs.WholeFirst.{AreNearest}
use Rattle.lrp_store.proofs.nearest.nearest_of_cell.Given as goal

abbrev pub invariant-loop-i : goal.invariant-loop-i
invariant-loop-i l = AreNearest l.period l.residues l.i l.xs
