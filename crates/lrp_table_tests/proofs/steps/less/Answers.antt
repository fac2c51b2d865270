-- 18 is a multiple of 6 and of 9.
use Rattle.std.proofs.Common.{refl, arith}
use Rattle.std.specs.Prelude.{pos}
use Rattle.lrp_table_tests.proofs.TimeLemmas.{can_minus}
use Rattle.lrp_table_tests.proofs.steps.less.Goals as goal

pub minus-requires : goal.minus-requires
minus-requires c = can_minus _ _ 6 9 1000 _ _ c.requires.left c.requires.right 18 (λ name here. here) (record { times = pos 3; is = refl }) (record { times = pos 2; is = refl }) (omega arith) (omega arith)
