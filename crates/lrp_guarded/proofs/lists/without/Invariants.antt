use Rattle.std.proofs.Common.{◌≡◌, not, filter, map, take}
use Rattle.lrp_core.specs.FreeVariables.{variable_of}
use Rattle.lrp_model.specs.Variables.{is_among}
use Rattle.lrp_guarded.proofs.lists.without.Given as goal

-- those so far were looked at
abbrev pub invariant-loop-variable : goal.invariant-loop-variable
invariant-loop-variable l = map variable_of l.found ≡ filter ((λ v. not (is_among (map variable_of l.others) v))) (map variable_of (take l.variable-index l.all))
