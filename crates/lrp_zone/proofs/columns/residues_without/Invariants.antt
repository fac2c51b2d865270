-- The residues of the columns so far are written.
use Rattle.std.proofs.Common.{◌≡◌, ◌<◌, ℕ, length}
use Rattle.lrp_theory.specs.Entries.{node}
use Rattle.lrp_zone.specs.Columns.{past_node}
use Rattle.lrp_zone.proofs.columns.residues_without.Given as goal

abbrev pub invariant-loop-p : goal.invariant-loop-p
invariant-loop-p l = record { size : length l.out ≡ 8; each : (r : ℕ) → r < l.p → node l.out r ≡ node l.residues (past_node l.k r) }
