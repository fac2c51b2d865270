use Rattle.std.proofs.Common.{◌∙◌, map, ap}
use Rattle.lrp_core.specs.FreeVariables.{variable_of, with_variables}
use Rattle.lrp_core.proofs.VariableLists.{each-step}
use Rattle.lrp_guarded.proofs.needs.add_atoms.Goals as goal

pub loop-atom-preserved : goal.loop-atom-preserved
loop-atom-preserved c = each-step (λ a. map variable_of a.variables.now) c.args.atoms.now c.loop-atom.atom-index c.atom-item.result (map variable_of c.args.all.now) (map variable_of c.loop-atom.all) (map variable_of c.add_variables.new.all) c.loop-atom-test.true c.atom-item.is c.loop-atom.invariant (c.in_ok-add_variables.ensures ∙ ap (λ vs. with_variables (map variable_of c.loop-atom.all) (map variable_of vs)) c.as_slice.ensures)
