-- There is no bound over the first columns.
use Rattle.std.proofs.Common.{◌≡◌, ℕ, ◌<◌, None}
use Rattle.lrp_theory.specs.Entries.{entry}
use Rattle.lrp_tables.proofs.free.is_unbounded.Given as goal

abbrev pub invariant-loop-other : goal.invariant-loop-other
invariant-loop-other l = (j : ℕ) → j < l.other → entry l.zone.bounds l.fn.column j ≡ None
