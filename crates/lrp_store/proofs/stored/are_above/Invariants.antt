-- The entries so far are at least the zone's bounds.
use Rattle.lrp_store.specs.Stored.{bounds_of}
use Rattle.lrp_store.proofs.Looser.{AreAbove}
use Rattle.lrp_store.proofs.stored.are_above.Given as goal

abbrev pub invariant-loop-entry : goal.invariant-loop-entry
invariant-loop-entry l = AreAbove l.zone.bounds (bounds_of l.entries) l.entry-index
