-- The first columns have no bound.
use Rattle.std.proofs.Common.{◌≡◌, ℕ, ◌<◌, ◌≤◌, None}
use Rattle.lrp_theory.specs.Entries.{entry}
use Rattle.lrp_zone.specs.Zones.{columns_of}
use Rattle.lrp_tables.proofs.free.is_free.Given as goal

abbrev pub invariant-loop-column : goal.invariant-loop-column
invariant-loop-column l = (i j : ℕ) → i < l.column → j ≤ columns_of l.zone → entry l.zone.bounds i j ≡ None
