-- The cells that are left are not held, and the others are settled.
use Rattle.lrp_eval.proofs.SettleLaws.{IsSettling}
use Rattle.lrp_eval.proofs.settling.settled_cells.Given as goal

abbrev pub invariant-loop-cell : goal.invariant-loop-cell
invariant-loop-cell l = IsSettling l.store l.made l.cell-iterator
