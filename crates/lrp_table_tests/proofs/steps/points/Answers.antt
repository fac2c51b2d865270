-- A point is a table of its period.
use Rattle.std.proofs.Common.{[], ◌∷◌, of_z, subst, to_z, to_z-of_z, w64, arith}
use Rattle.std.specs.Prelude.{codes, nat_abs}
use Rattle.lrp_table_tests.specs.Times.{IsOfTimes}
use Rattle.lrp_table_tests.proofs.TimeLemmas.{made_is, made_numbered}
use Rattle.lrp_table_tests.proofs.steps.points.Goals as goal

pub leaf-requires : goal.leaf-requires
leaf-requires g c = record { low = c.check_period.ensures.low; reach = omega (arith, c.check_period.ensures.high) }

pub returns : goal.returns
returns g c = record {
  times = subst (λ k. IsOfTimes (codes "t" ∷ []) (nat_abs k) 1000 c.expect.result) (to_z-of_z c.ranges.period)
      (subst (λ n. IsOfTimes (n ∷ []) (nat_abs (to_z w64 (of_z w64 c.args.period))) 1000 c.expect.result) c.t-name.ensures (made_is _ _ _ _ _ _ _ _ _ c.leaf.ensures c.expect.ensures 1000 c.check_period.ensures.high));
  numbered = made_numbered _ _ _ _ _ _ _ _ _ c.leaf.ensures c.expect.ensures;
}
