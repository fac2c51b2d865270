-- Zero is a residue.
use Rattle.std.proofs.Common.{arith}
use Rattle.lrp_table_tests.proofs.ResidueLemmas.{low_residue}
use Rattle.lrp_table_tests.proofs.stores.halves.Goals as goal

pub add_residue-requires-clause-residue : goal.add_residue-requires-clause-residue
add_residue-requires-clause-residue g c = low_residue _ _ 0 c.no_residues-store.ensures.period (omega arith)
