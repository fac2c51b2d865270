-- What holds after some numbers of a column: the tuples with those numbers were added.
use Rattle.std.proofs.Common.{ℕ, ◌-◌, ◌+◌, ◌*◌, ◌≤◌, get_or}
use Rattle.lrp_store.specs.Stores.{HasReach}
use Rattle.lrp_minus.specs.Absences.{IsAbsent}
use Rattle.lrp_tables.proofs.Gathering.{IsGathering}
use Rattle.lrp_minus.specs.Counts.{GrowsIn, most_left}
use Rattle.lrp_minus.proofs.Growth.{HasTextBefore}
use Rattle.lrp_minus.proofs.absences.+fill_texts.Given as goal

abbrev pub decreases-fill_texts : goal.decreases-fill_texts
decreases-fill_texts a = a.absences.now.store.now.shape.texts - a.column

abbrev pub invariant-loop-number : goal.invariant-loop-number
invariant-loop-number l =
    ((high : ℕ) → HasReach l.absences.store.now high → IsGathering (IsAbsent l.absences.size l.absences.store.now l.column l.texts) (λ xs ns. l.number ≤ get_or ns l.column 0) l.absences.cap (high + 2 * l.absences.store.now.period) l.initial.out l.out)
    × GrowsIn (HasTextBefore l.column l.texts l.number) (most_left l.absences.store.now) l.initial.out l.out
