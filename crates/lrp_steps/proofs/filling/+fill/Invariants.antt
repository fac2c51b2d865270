-- What holds after some numbers of a column: the tuples of those numbers were added.
use Rattle.std.proofs.Common.{◌-◌, ◌≤◌, get_or}
use Rattle.lrp_systems.specs.Parts.{system_reach}
use Rattle.lrp_steps.specs.Fillings.{IsFilled}
use Rattle.lrp_tables.proofs.Gathering.{IsGathering}
use Rattle.lrp_steps.proofs.filling.+fill.Given as goal

abbrev pub decreases-fill : goal.decreases-fill
decreases-fill a = a.out.now.shape.texts - a.column

abbrev pub invariant-loop-number : goal.invariant-loop-number
invariant-loop-number l = IsGathering (IsFilled l.initial.out.shape l.wanted.size l.wanted.pattern.now l.column l.texts) (λ xs ns. l.number ≤ get_or ns l.column 0) l.wanted.cap (system_reach l.initial.out.period l.parts) l.initial.out l.out
