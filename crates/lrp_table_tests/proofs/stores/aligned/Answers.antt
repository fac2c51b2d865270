-- 18 is a multiple of 6, and the store's numbers are small.
use Rattle.std.proofs.Common.{refl, sym, subst, arith}
use Rattle.std.specs.Prelude.{pos}
use Rattle.lrp_theory.specs.Divides.{Divides}
use Rattle.lrp_store.proofs.Rooms.{align_room}
use Rattle.lrp_table_tests.proofs.stores.aligned.Goals as goal

pub align-requires-clause-multiple : goal.align-requires-clause-multiple
align-requires-clause-multiple c = subst (λ n. Divides (pos n) (pos 18)) (sym c.requires.period) (record { times = pos 3; is = refl })

pub align-requires-clause-reach : goal.align-requires-clause-reach
align-requires-clause-reach c = align_room _ 18 c.requires.reach (omega arith)
