-- The columns so far have their first values, and the others are zero.
use Rattle.std.proofs.Common.{◌≡◌, ◌<◌, ◌≤◌, ◌+◌, ℕ, pos, length}
use Rattle.lrp_theory.specs.Entries.{node}
use Rattle.lrp_zone.specs.Order.{at}
use Rattle.lrp_zone.specs.Raising.{IsFirstValue}
use Rattle.lrp_zone.proofs.raising.first_values.Given as goal

abbrev pub invariant-loop-i : goal.invariant-loop-i
invariant-loop-i l = record {
  size : length l.out ≡ 8;
  each : (j : ℕ) → j < l.i → IsFirstValue l.zone.period (node l.zone.residues (j + 1)) (at l.low j) (at l.out j);
  zeros : (j : ℕ) → l.i ≤ j → at l.out j ≡ pos 0;
}
