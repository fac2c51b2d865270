-- 4 is a multiple of 4 and of 1.
use Rattle.std.proofs.Common.{refl, sym, subst, arith}
use Rattle.std.specs.Prelude.{pos}
use Rattle.lrp_tables.specs.Steps.{CanJoin}
use Rattle.lrp_table_tests.proofs.TimeLemmas.{can_join, join_is}
use Rattle.lrp_table_tests.proofs.steps.after_fourths.Goals as goal

pub join-requires : goal.join-requires
join-requires g c = subst (CanJoin (pos 4) c.fourths-left.result c.later-right.result) (sym c.new.ensures)
    (can_join _ _ 4 1 1000 _ _ c.fourths-left.ensures c.later-right.ensures 4 (omega arith) (record { times = pos 1; is = refl }) (record { times = pos 4; is = refl }) (omega arith) (omega arith))

pub returns : goal.returns
returns g c = join_is _ _ 4 1 1000 _ _ c.fourths-left.ensures c.later-right.ensures _ _ 4 _ c.new.ensures _ _ c.join.ensures c.expect.ensures
