use Rattle.std.proofs.Common.{◌≡◌, drop, map}
use Rattle.lrp_model.specs.Variables.{meet}
use Rattle.lrp_core.specs.FreeVariables.{variable_of}
use Rattle.lrp_core.proofs.coverage.meet.Given as goal

-- some is among the others if one of those that are left is
abbrev pub invariant-loop-variable : goal.invariant-loop-variable
invariant-loop-variable l = meet (map variable_of (drop l.variable-index l.variables)) (map variable_of l.all) ≡ meet (map variable_of l.variables) (map variable_of l.all)
