use Rattle.std.proofs.Common.{◌≡◌, drop}
use Rattle.lrp_wide.specs.Settings.{name_passed}
use Rattle.lrp_wide.proofs.uses.UseSetting.name.Given as goal

-- the columns that are left give the name that all of them give
abbrev pub invariant-loop-passed : goal.invariant-loop-passed
invariant-loop-passed l = name_passed (drop l.passed-index l.passed-items) l.used.number l.name ≡ name_passed l.used.passed.now l.used.number l.name
