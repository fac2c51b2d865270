-- The cells that have been put in, and those of the keys that are left, are all of them.
use Rattle.std.proofs.Common.{◌≡◌, ◌++◌}
use Rattle.lrp_slots.specs.Narrow.{wide_entries}
use Rattle.lrp_slots.proofs.tree.widened.Given as goal

abbrev pub invariant-loop-entry : goal.invariant-loop-entry
invariant-loop-entry l = l.wide.entries ++ wide_entries l.entry-iterator ≡ wide_entries l.narrow.entries
