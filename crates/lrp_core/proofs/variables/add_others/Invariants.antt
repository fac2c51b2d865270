use Rattle.std.proofs.Common.{◌≡◌, map}
use Rattle.lrp_model.specs.Variables.{bound_by}
use Rattle.lrp_core.specs.FreeVariables.{variable_of, with_variables, others}
use Rattle.lrp_core.proofs.variables.add_others.Given as goal

-- the variables so far were added but for the bound one
abbrev pub invariant-loop-variable : goal.invariant-loop-variable
invariant-loop-variable l = map variable_of l.all ≡ with_variables (map variable_of l.fn.all) (others (bound_by l.sort l.name) (map variable_of l.yielded))
