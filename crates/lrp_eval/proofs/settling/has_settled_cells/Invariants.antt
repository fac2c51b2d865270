-- The cells so far are settled as they stand.
use Rattle.lrp_eval.proofs.StandingLaws.{AreStanding}
use Rattle.lrp_eval.proofs.settling.has_settled_cells.Given as goal

abbrev pub invariant-loop-cell : goal.invariant-loop-cell
invariant-loop-cell l = AreStanding l.store l.cell-iterator
