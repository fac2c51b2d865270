-- The cells so far are whole.
use Rattle.lrp_periods.proofs.Covers.{AreFirstWhole}
use Rattle.lrp_periods.proofs.sieves.is_whole.Given as goal

abbrev pub invariant-loop-cell : goal.invariant-loop-cell
invariant-loop-cell l = AreFirstWhole l.store l.cell-iterator
