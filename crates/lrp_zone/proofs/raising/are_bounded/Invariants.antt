-- The values so far are at most their high ends.
use Rattle.std.proofs.Common.{◌<◌, ℕ}
use Rattle.std.specs.Prelude.{◌≤ℤ◌}
use Rattle.lrp_zone.specs.Order.{at}
use Rattle.lrp_zone.proofs.raising.are_bounded.Given as goal

abbrev pub invariant-loop-i : goal.invariant-loop-i
invariant-loop-i l = (j : ℕ) → j < l.i → at l.values j ≤ℤ at l.high j
