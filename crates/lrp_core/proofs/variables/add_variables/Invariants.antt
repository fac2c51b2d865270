use Rattle.std.proofs.Common.{◌≡◌, map, take}
use Rattle.lrp_core.specs.FreeVariables.{variable_of, with_variables}
use Rattle.lrp_core.proofs.variables.add_variables.Given as goal

-- copies of the variables so far were added
abbrev pub invariant-loop-variable : goal.invariant-loop-variable
invariant-loop-variable l = map variable_of l.all ≡ with_variables (map variable_of l.fn.all) (map variable_of (take l.variable-index l.more))
