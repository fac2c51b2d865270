-- What the right parts so far leave.
use Rattle.std.proofs.Common.{take}
use Rattle.lrp_tables.specs.Tables.{HasAssignment}
use Rattle.lrp_periods.specs.Parts.{HasSome, IsPartOfSet}
use Rattle.lrp_periods.specs.Sets.{IsDifferenceOf}
use Rattle.lrp_periods.proofs.differences.left_of.Given as goal

abbrev pub invariant-loop-place : goal.invariant-loop-place
invariant-loop-place l = IsPartOfSet l.setting.domain.now l.left.vars.times l.left.vars.texts l.fn.period (IsDifferenceOf (HasAssignment l.left l.setting.domain.now) (HasSome l.setting.domain.now (take l.place l.rights))) l.made
