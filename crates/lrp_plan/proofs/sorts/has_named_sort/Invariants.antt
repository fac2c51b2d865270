use Rattle.std.proofs.Common.{◌≡◌, false, take}
use Rattle.lrp_model.specs.Core.{has_named_sort}
use Rattle.lrp_plan.proofs.sorts.has_named_sort.Given as goal

-- no relation so far has a column of a named sort
abbrev pub invariant-loop-i : goal.invariant-loop-i
invariant-loop-i l = has_named_sort (take l.i l.database) ≡ false
