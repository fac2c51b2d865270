-- Zones of integers have room where they are cut, and what is left of them is of integers.
use Rattle.lrp_table_tests.proofs.IntegerLemmas.{cut_fits, left_found, of_cell}
use Rattle.lrp_table_tests.proofs.cuts.left_by.Goals as goal

pub pieces-requires-clause-cell : goal.pieces-requires-clause-cell
pieces-requires-clause-cell g c = of_cell _ _ _ _ c.integers-all.ensures c.requires

pub pieces-requires-clause-reach : goal.pieces-requires-clause-reach
pieces-requires-clause-reach g c = cut_fits _ _ c.integers-all.ensures c.requires

pub returns : goal.returns
returns g c = left_found _ _ c.pieces.result c.expect.result c.expect.ensures c.integers-all.ensures c.requires c.pieces.ensures.difference c.pieces.ensures.reach
