-- The entries are the bounds of the places so far, and eight have room.
use Rattle.std.proofs.Common.{◌≤◌}
use Rattle.lrp_store.specs.Stored.{bounds_of}
use Rattle.lrp_store.proofs.Listed.{AreOf}
use Rattle.lrp_store.proofs.stored.StoredBounds.of.Given as goal

abbrev pub invariant-loop-place : goal.invariant-loop-place
invariant-loop-place l = record { listed : AreOf l.zone.bounds l.place (bounds_of l.entries.items); room : 8 ≤ l.entries.capacity }
