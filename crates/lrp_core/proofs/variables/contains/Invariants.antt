use Rattle.std.proofs.Common.{◌≡◌, drop, map}
use Rattle.lrp_model.specs.Variables.{is_among, bound_by}
use Rattle.lrp_core.specs.FreeVariables.{variable_of}
use Rattle.lrp_core.proofs.variables.contains.Given as goal

-- it is among those that are left if it is one of all
abbrev pub invariant-loop-variable : goal.invariant-loop-variable
invariant-loop-variable l = is_among (map variable_of (drop l.variable-index l.all)) (bound_by l.sort l.name) ≡ is_among (map variable_of l.all) (bound_by l.sort l.name)
