-- The bounds so far are small, and on the columns.
use Rattle.std.proofs.Common.{ℕ, ◌<◌, ◌≤◌, ◌^◌, length}
use Rattle.std.specs.Prelude.{nat_abs}
use Rattle.lrp_zone.specs.Given.{bound_at}
use Rattle.lrp_table_tests.proofs.parts.zone_of.Given as goal

abbrev pub invariant-loop-bound : goal.invariant-loop-bound
invariant-loop-bound g l = (i : ℕ) → i < l.bound-index → ((bound_at l.bounds i).left ≤ length l.residues) × ((bound_at l.bounds i).right ≤ length l.residues) × (nat_abs (bound_at l.bounds i).most ≤ 2 ^ 53)
