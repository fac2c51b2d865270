-- The columns so far have one value in both.
use Rattle.std.proofs.Common.{◌≡◌, ◌<◌, ℕ, List}
use Rattle.std.specs.Prelude.{ℤ}
use Rattle.lrp_zone.specs.Order.{at}
use Rattle.lrp_zone.specs.Zones.{IsMember}
use Rattle.lrp_cutting.proofs.turns.comes_before.Given as goal

abbrev pub invariant-loop-i : goal.invariant-loop-i
invariant-loop-i l = (xs ys : List ℤ) → IsMember l.zone xs → IsMember l.next ys → (j : ℕ) → j < l.i → at ys j ≡ at xs j
