use Rattle.lrp_theory.proofs.Lattice.{OfResidue, of_residues}
use Rattle.lrp_theory.proofs.Extend.{completed}
use Rattle.lrp_theory.proofs.numbers_extend.Goals as goal

pub returns : goal.returns
returns c = λ n k r b s x one tight tri cyc meets fit. completed n b (OfResidue k r) (of_residues n k r b one tight) tri cyc s x meets fit
