-- Zero and one are the residues modulo 2.
use Rattle.std.proofs.Common.{◌∙◌, arith}
use Rattle.lrp_table_tests.proofs.ResidueLemmas.{can_make, low_residue}
use Rattle.lrp_table_tests.proofs.canonical.all_integers.Goals as goal

pub add_residue-requires-clause-residue : goal.add_residue-requires-clause-residue
add_residue-requires-clause-residue g c = low_residue _ _ 0 c.no_residues-store.ensures.period (omega arith)

pub add_residue-requires-2-clause-residue : goal.add_residue-requires-2-clause-residue
add_residue-requires-2-clause-residue g c = low_residue _ _ 1 (c.add_residue.ensures.period ∙ c.no_residues-store.ensures.period) (omega arith)

pub returns : goal.returns
returns g c = can_make _ _ c.add_residue-2.ensures
