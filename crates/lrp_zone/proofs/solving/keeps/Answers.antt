-- The test of a difference in words is that of integers.
use Rattle.std.proofs.Common.{arith}
use Rattle.std.proofs.lemmas.Int.{ints}
use Rattle.lrp_theory.proofs.Tests.{within_test}
use Rattle.lrp_zone.proofs.solving.keeps.Goals as goal

pub returns-in-Some : goal.returns-in-Some
returns-in-Some c = within_test _ c.in-Some.a _ _ c.in-Some.is (λ t. omega (arith, ints)) (λ l. grind (arith, ints))
