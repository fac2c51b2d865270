-- 18 is a multiple of 6 and of 9.
use Rattle.std.proofs.Common.{refl, sym, subst, arith}
use Rattle.std.specs.Prelude.{pos}
use Rattle.lrp_tables.specs.Steps.{CanJoin}
use Rattle.lrp_table_tests.proofs.TimeLemmas.{can_join}
use Rattle.lrp_table_tests.proofs.steps.joined.Goals as goal

pub join-requires : goal.join-requires
join-requires c = subst (CanJoin (pos 18) c.args.left.now c.args.right.now) (sym c.new.ensures)
    (can_join _ _ 6 9 1000 _ _ c.requires.left c.requires.right 18 (omega arith) (record { times = pos 3; is = refl }) (record { times = pos 2; is = refl }) (omega arith) (omega arith))
