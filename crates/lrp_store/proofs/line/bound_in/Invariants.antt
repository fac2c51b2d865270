-- What is listed for the place is listed from here on.
use Rattle.lrp_store.proofs.LineBounds.{StandsFrom}
use Rattle.lrp_store.proofs.line.bound_in.Given as goal

abbrev pub invariant-loop-entry : goal.invariant-loop-entry
invariant-loop-entry l = StandsFrom l.entries l.place l.entry-index
