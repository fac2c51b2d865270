-- What holds after some residues of a column: the tuples with those residues were added.
use Rattle.std.proofs.Common.{ℕ, ◌-◌, ◌+◌, ◌*◌}
use Rattle.std.specs.Prelude.{pos, ◌≤ℤ◌}
use Rattle.lrp_store.specs.Stores.{HasReach}
use Rattle.lrp_minus.specs.Absences.{IsAbsentAt}
use Rattle.lrp_minus.proofs.AbsenceLaws.{IsPastResidue}
use Rattle.lrp_tables.proofs.Gathering.{IsGathering}
use Rattle.lrp_minus.specs.Counts.{GrowsIn, most_left}
use Rattle.lrp_minus.proofs.Growth.{HasResidueBefore}
use Rattle.lrp_minus.proofs.absences.+fill_residues.Given as goal

abbrev pub decreases-fill_residues : goal.decreases-fill_residues
decreases-fill_residues a = a.absences.now.store.now.shape.times - a.column

abbrev pub invariant-loop-residue : goal.invariant-loop-residue
invariant-loop-residue l = (pos 0 ≤ℤ l.residue) × ((high : ℕ) → HasReach l.absences.store.now high → IsGathering (IsAbsentAt l.absences.store.now l.column l.cell) (IsPastResidue l.absences.store.now.period l.column l.residue) l.absences.cap (high + 2 * l.absences.store.now.period) l.initial.out l.out) × GrowsIn (HasResidueBefore l.column l.cell l.residue) (most_left l.absences.store.now) l.initial.out l.out
