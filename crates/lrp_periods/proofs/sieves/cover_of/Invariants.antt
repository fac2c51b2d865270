-- The cells so far are marked.
use Rattle.lrp_periods.proofs.Sieving.{IsMarking}
use Rattle.lrp_periods.proofs.sieves.cover_of.Given as goal

abbrev pub invariant-loop-cell : goal.invariant-loop-cell
invariant-loop-cell l = IsMarking l.store l.cell-iterator l.marks.items
