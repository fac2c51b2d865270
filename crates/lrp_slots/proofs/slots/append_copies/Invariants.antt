use Rattle.std.proofs.Common.{◌≡◌}
use Rattle.lrp_slots.specs.Lists.{append_all}
use Rattle.lrp_slots.proofs.slots.append_copies.Given as goal

-- the values that are left complete the list
abbrev pub invariant-loop-value : goal.invariant-loop-value
invariant-loop-value g l = append_all l.made.lists l.cell l.value-iterator ≡ append_all l.fn.made.lists l.cell l.fn.values
