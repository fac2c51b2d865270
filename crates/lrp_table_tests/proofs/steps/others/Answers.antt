-- The period has room.
use Rattle.std.proofs.Common.{arith}
use Rattle.lrp_table_tests.proofs.TimeLemmas.{can_complement}
use Rattle.lrp_table_tests.proofs.steps.others.Goals as goal

pub complement-requires : goal.complement-requires
complement-requires c = can_complement _ 2 1000 _ c.requires (omega arith)
