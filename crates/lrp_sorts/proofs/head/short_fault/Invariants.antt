use Rattle.std.proofs.Common.{◌≡◌, [], take}
use Rattle.lrp_model.specs.Faults.{earliest}
use Rattle.lrp_model.specs.Sorting.{query_standing, head_faults}
use Rattle.lrp_sorts.proofs.head.short_fault.Given as goal

-- the columns so far
abbrev pub invariant-loop-i : goal.invariant-loop-i
invariant-loop-i l = l.found ≡ earliest query_standing (head_faults l.catalog [] (take l.i l.columns))
