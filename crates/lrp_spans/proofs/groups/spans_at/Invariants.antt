-- The spans so far, and those that are left.
use Rattle.std.proofs.Common.{◌≡◌, ◌++◌}
use Rattle.lrp_slots.specs.Lists.{list_at}
use Rattle.lrp_spans.proofs.groups.spans_at.Given as goal

abbrev pub invariant-loop-span : goal.invariant-loop-span
invariant-loop-span l = l.spans.items ++ l.span-iterator ≡ list_at l.groups.lists l.group
