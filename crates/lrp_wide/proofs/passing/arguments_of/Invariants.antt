use Rattle.lrp_wide.specs.Settings.{setting_of}
use Rattle.lrp_wide.proofs.InlineArguments.{ArePassed}
use Rattle.lrp_wide.proofs.passing.arguments_of.Given as goal

-- the columns so far
abbrev pub invariant-loop-i : goal.invariant-loop-i
invariant-loop-i l = ArePassed (setting_of l.setting) l.met.place l.met.number l.columns l.met.terms.now l.i l.given
