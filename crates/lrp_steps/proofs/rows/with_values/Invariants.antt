-- The pattern asks for the values that are after.
use Rattle.std.proofs.Common.{take}
use Rattle.lrp_steps.specs.Rows.{IsWithValues}
use Rattle.lrp_steps.proofs.rows.with_values.Given as goal

abbrev pub invariant-loop-i : goal.invariant-loop-i
invariant-loop-i l = IsWithValues l.domain l.vars.times l.vars.texts (take l.i l.values) (take l.i l.terms) l.pattern
