-- The bounds so far are small.
use Rattle.lrp_store.specs.Stored.{bounds_of}
use Rattle.lrp_store.proofs.Reaches.{AreSmall}
use Rattle.lrp_store.proofs.reach.are_small.Given as goal

abbrev pub invariant-loop-entry : goal.invariant-loop-entry
invariant-loop-entry l = AreSmall l.reach (bounds_of l.entries) l.entry-index
