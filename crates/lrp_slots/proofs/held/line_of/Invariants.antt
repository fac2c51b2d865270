-- The cells in line, and those that are left, are all of them.
use Rattle.std.proofs.Common.{◌≡◌, ◌++◌}
use Rattle.lrp_slots.proofs.held.line_of.Given as goal

abbrev pub invariant-loop-entry : goal.invariant-loop-entry
invariant-loop-entry l = l.line ++ l.entry-iterator ≡ l.tree
