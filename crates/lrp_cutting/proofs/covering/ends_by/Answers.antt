-- Both ends are compared, or there is none to come to.
use Rattle.std.proofs.Common.{arith}
use Rattle.std.proofs.lemmas.Int.{ints}
use Rattle.lrp_theory.proofs.Below.{below_test, none_above}
use Rattle.lrp_cutting.proofs.covering.ends_by.Goals as goal

pub returns-in-Some-Some : goal.returns-in-Some-Some
returns-in-Some-Some c = below_test c.in-Some-Some.end c.in-Some-Some.other _ _ _ c.in-Some-Some.is-0 c.in-Some-Some.is-1 (λ t. omega (arith, ints)) (λ l. grind (arith, ints))

pub returns-in-None-Some : goal.returns-in-None-Some
returns-in-None-Some c = ((λ t. cc), (λ h. absurd (none_above _ (rw (c.in-None-Some.is-0, c.in-None-Some.is-1) at h))))
