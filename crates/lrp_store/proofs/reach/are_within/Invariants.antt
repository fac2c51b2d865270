-- The tables that are no more left have small bounds.
use Rattle.std.specs.Prelude.{◌≤◌}
use Rattle.lrp_zone.specs.Zones.{greatest_of}
use Rattle.lrp_store.proofs.Reaches.{AreSeen}
use Rattle.lrp_store.proofs.reach.are_within.Given as goal

abbrev pub invariant-loop-bounds : goal.invariant-loop-bounds
invariant-loop-bounds l = AreSeen (λ table. greatest_of table ≤ l.reach) l.fn.tables l.bounds-iterator
