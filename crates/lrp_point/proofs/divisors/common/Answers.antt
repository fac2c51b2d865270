use Rattle.std.proofs.Common.{arith, ◌≡◌, ◌^◌, to_z, of_z}
use Rattle.std.specs.Int.{w64}
use Rattle.std.proofs.lemmas.Int.{ints}
use Rattle.lrp_point.proofs.PointLemmas.{not_above}
use Rattle.lrp_point.proofs.divisors.common.Goals as goal

pub returns-clause-limit : goal.returns-clause-limit
returns-clause-limit c =
    let first : to_z w64 (of_z w64 c.args.k1) ≡ c.args.k1 = omega (arith, ints) in
    let second : to_z w64 (of_z w64 c.args.k2) ≡ c.args.k2 = omega (arith, ints) in
    ((λ e. cc), (λ above. absurd (not_above _ _ _ (2 ^ 62) (rw (first, second) at c.multiple-k.ensures.least) (omega arith) above)))
