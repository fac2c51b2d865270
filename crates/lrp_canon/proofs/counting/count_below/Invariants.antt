-- The residues so far are below the end.
use Rattle.std.proofs.Common.{ℕ, ◌-◌, ◌<◌, ◌≤◌, length, take}
use Rattle.std.specs.Prelude.{Contains}
use Rattle.lrp_canon.proofs.counting.count_below.Given as goal

abbrev pub invariant-loop-next : goal.invariant-loop-next
invariant-loop-next l = (l.next ≤ length l.residues) × ((r : ℕ) → Contains (take l.next l.residues) r → r < l.end)

abbrev pub decreases-loop-next : goal.decreases-loop-next
decreases-loop-next l = length l.residues - l.next
