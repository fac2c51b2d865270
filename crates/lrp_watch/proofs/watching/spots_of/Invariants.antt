-- The edits so far are made, and the least answers told.
use Rattle.lrp_watch.proofs.Passings.{AreDoneUpTo}
use Rattle.lrp_watch.proofs.watching.spots_of.Given as goal

abbrev pub invariant-loop-i : goal.invariant-loop-i
invariant-loop-i l = AreDoneUpTo l.i l.edits l.fn.keep l.keep l.spots
