use Rattle.std.proofs.Common.{◌++◌, List, drop}
use Rattle.lrp_wide.specs.Chains.{as_themselves}
use Rattle.lrp_wide.specs.Settings.{passed_of, setting_of}
use Rattle.lrp_wide.specs.declared.uses.Passed.{Passed as PassedOf}
use Rattle.lrp_wide.proofs.inlining.passed_on.Given as goal

-- the columns so far, and those that are left
abbrev pub invariant-loop-i : goal.invariant-loop-i
invariant-loop-i l = (more : List PassedOf) → passed_of (as_themselves (setting_of l.setting).name (drop l.i l.columns) (drop l.i l.variables)) more
    → passed_of (as_themselves (setting_of l.setting).name l.columns l.variables) (l.all.items ++ more)
