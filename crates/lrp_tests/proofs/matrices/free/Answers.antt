-- No bound is small.
use Rattle.std.proofs.Common.{◌+◌, ◌^◌}
use Rattle.lrp_matrix.proofs.Lowering.{free_small}
use Rattle.lrp_tests.proofs.matrices.free.Goals as goal

pub returns-clause-small : goal.returns-clause-small
returns-clause-small c = free_small c.free.result (c.free.result.columns + 1) (2 ^ 62) c.free.ensures.cells
