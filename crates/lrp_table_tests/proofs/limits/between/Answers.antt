-- Both bounds are tight modulo 1, and at most the limit.
use Rattle.std.proofs.Common.{◌≤◌, ◌^◌, ◌-◌, arith}
use Rattle.std.proofs.lemmas.Int.{ints}
use Rattle.lrp_table_tests.proofs.LimitLemmas.{given_both, of_both}
use Rattle.lrp_table_tests.proofs.limits.between.Goals as goal

pub of-requires-clause-given : goal.of-requires-clause-given
of-requires-clause-given g c = given_both _ _ _ _ c.bound.ensures c.bound-2.ensures c.check_size-2.ensures (omega (arith, ints, c.check_size.ensures))

pub returns : goal.returns
returns g c = record {
  all = of_both _ _ _ _ c.bound.ensures c.bound-2.ensures c.of.result c.expect.result c.of.ensures.some c.expect.ensures (2 ^ 62) c.check_size-2.ensures (omega (arith, ints, c.check_size.ensures));
  inner = λ f t. of_both _ _ _ _ c.bound.ensures c.bound-2.ensures c.of.result c.expect.result c.of.ensures.some c.expect.ensures (2 ^ 62 - 1) (omega (arith, ints, t)) (omega (arith, ints, f));
}
