use Rattle.std.proofs.Common.{◌≡◌, drop, map}
use Rattle.lrp_model.specs.Variables.{are_among}
use Rattle.lrp_core.specs.FreeVariables.{variable_of}
use Rattle.lrp_core.proofs.coverage.are_among.Given as goal

-- all are among the others if those that are left are
abbrev pub invariant-loop-variable : goal.invariant-loop-variable
invariant-loop-variable l = are_among (map variable_of (drop l.variable-index l.variables)) (map variable_of l.all) ≡ are_among (map variable_of l.variables) (map variable_of l.all)
