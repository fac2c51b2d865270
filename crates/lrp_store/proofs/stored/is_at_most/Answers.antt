-- A number is below a bound where there is one, and it is at least the number.
use Rattle.std.proofs.Common.{arith}
use Rattle.std.proofs.lemmas.Int.{ints}
use Rattle.lrp_theory.proofs.Below.{some_below, below_some, none_above}
use Rattle.lrp_store.proofs.stored.is_at_most.Goals as goal

pub returns-in-Some : goal.returns-in-Some
returns-in-Some c = rw c.in-Some.is ((λ t. some_below _ _ (omega (arith, ints))), (λ h. let l = below_some _ _ h in grind (arith, ints)))

pub returns-in-None : goal.returns-in-None
returns-in-None c = ((λ t. cc), (λ h. absurd (none_above _ (rw c.in-None.is at h))))
