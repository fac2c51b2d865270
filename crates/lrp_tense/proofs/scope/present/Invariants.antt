use Rattle.std.proofs.Common.{◌≡◌, ◌≤◌, length, take}
use Rattle.lrp_tense.specs.Expanding.{present_name}
use Rattle.lrp_tense.specs.Named.{naming_of}
use Rattle.lrp_tense.proofs.scope.present.Given as goal

-- the variables that are left give the name that all of them give
abbrev pub invariant-loop-left : goal.invariant-loop-left
invariant-loop-left l = record {
  low : l.left ≤ length l.variables;
  same : present_name (naming_of (take l.left l.variables)) l.written ≡ present_name (naming_of l.variables) l.written;
}

abbrev pub decreases-loop-left : goal.decreases-loop-left
decreases-loop-left l = l.left
