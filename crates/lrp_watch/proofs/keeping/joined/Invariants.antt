-- The tables so far are after those that were known.
use Rattle.std.specs.Prelude.{◌≡◌, ◌++◌}
use Rattle.lrp_watch.proofs.keeping.joined.Given as goal

abbrev pub invariant-loop-table : goal.invariant-loop-table
invariant-loop-table l = l.all ≡ l.fn.known ++ l.yielded
