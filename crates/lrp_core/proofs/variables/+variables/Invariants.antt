use Rattle.std.proofs.Common.{◌≡◌, take, map}
use Rattle.lrp_model.specs.Variables.{free_each}
use Rattle.lrp_core.specs.Cores.{cores_of}
use Rattle.lrp_core.specs.FreeVariables.{variable_of, with_variables}
use Rattle.lrp_core.proofs.variables.+variables.Given as goal

-- the variables of the elements so far were added
abbrev pub invariant-add_each-loop-core : goal.invariant-add_each-loop-core
invariant-add_each-loop-core l = map variable_of l.all ≡ with_variables (map variable_of l.fn.all) (free_each (cores_of (take l.core-index l.cores)))
