-- The first residues were put.
use Rattle.lrp_minus.proofs.BeneathLaws.{FirstResidues}
use Rattle.lrp_minus.proofs.beneath.residues_at.Given as goal

abbrev pub invariant-loop-i : goal.invariant-loop-i
invariant-loop-i l = FirstResidues l.places l.residues l.i l.own
