-- The first cells have longer keys.
use Rattle.std.proofs.Common.{◌≡◌, take}
use Rattle.lrp_slots.proofs.in_line.widened.Given as goal

abbrev pub invariant-loop-i : goal.invariant-loop-i
invariant-loop-i l = l.medium ≡ take l.i l.narrow
