use Rattle.std.proofs.Common.{map, refl}
use Rattle.lrp_model.specs.Variables.{bound_by}
use Rattle.lrp_core.specs.FreeVariables.{variable_of}
use Rattle.lrp_core.proofs.VariableLists.{others-step}
use Rattle.lrp_core.proofs.variables.add_others.Goals as goal

pub loop-variable-preserved : goal.loop-variable-preserved
loop-variable-preserved c =
    others-step (bound_by c.args.sort.now c.args.name.now) c.loop-variable.yielded _ c.in-Some.variable (map variable_of c.args.all.now) (map variable_of c.loop-variable.all) (map variable_of c.add_other.new.all) refl c.loop-variable.invariant c.in_ok-add_other.ensures
