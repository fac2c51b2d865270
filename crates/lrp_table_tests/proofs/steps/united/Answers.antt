-- 2 is a multiple of 2 and of 1.
use Rattle.std.proofs.Common.{refl, arith}
use Rattle.std.specs.Prelude.{pos}
use Rattle.lrp_table_tests.proofs.TimeLemmas.{can_unite}
use Rattle.lrp_table_tests.proofs.steps.united.Goals as goal

pub union-requires : goal.union-requires
union-requires c = can_unite _ _ 2 1 1000 _ _ c.requires.left c.requires.right _ 2 (omega arith) (record { times = pos 1; is = refl }) (record { times = pos 2; is = refl }) (omega arith) (omega arith) c.requires.left_numbered c.requires.right_numbered
