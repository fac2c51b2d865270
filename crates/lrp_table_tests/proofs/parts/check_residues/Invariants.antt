-- The residues so far are below the period.
use Rattle.std.proofs.Common.{ℕ, ◌≤◌}
use Rattle.std.specs.Prelude.{nat_abs}
use Rattle.lrp_theory.specs.Entries.{node}
use Rattle.lrp_zone.specs.Zones.{IsResidue}
use Rattle.lrp_table_tests.proofs.parts.check_residues.Given as goal

abbrev pub invariant-loop-residue : goal.invariant-loop-residue
invariant-loop-residue g l = (p : ℕ) → p ≤ l.residue-index → IsResidue (nat_abs l.period) (node l.residues p)
