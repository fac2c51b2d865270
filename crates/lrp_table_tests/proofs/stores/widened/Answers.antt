-- The limit is twice its half.
use Rattle.std.proofs.Common.{◌^◌, refl, sym, subst}
use Rattle.std.specs.Prelude.{pos}
use Rattle.lrp_theory.specs.Divides.{Divides}
use Rattle.lrp_table_tests.proofs.stores.widened.Goals as goal

pub align-requires-clause-multiple : goal.align-requires-clause-multiple
align-requires-clause-multiple c = subst (λ n. Divides (pos n) (pos (2 ^ 62))) (sym c.requires.period) (record { times = pos 2; is = refl })

pub align-requires-clause-reach : goal.align-requires-clause-reach
align-requires-clause-reach c = c.requires.reach
