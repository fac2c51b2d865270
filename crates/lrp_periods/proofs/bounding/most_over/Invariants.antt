-- The bound so far is one.
use Rattle.std.specs.Prelude.{IfSome}
use Rattle.lrp_periods.specs.Windows.{IsMostOver}
use Rattle.lrp_periods.proofs.bounding.most_over.Given as goal

abbrev pub invariant-loop-middle : goal.invariant-loop-middle
invariant-loop-middle l = IfSome l.least (IsMostOver l.zone l.column l.other)
