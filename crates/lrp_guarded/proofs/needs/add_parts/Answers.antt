use Rattle.std.proofs.Common.{◌∙◌, map, ap}
use Rattle.lrp_core.specs.FreeVariables.{variable_of, with_variables}
use Rattle.lrp_core.proofs.VariableLists.{each-step}
use Rattle.lrp_guarded.specs.Choices.{part_variables}
use Rattle.lrp_guarded.proofs.needs.add_parts.Goals as goal

pub loop-part-preserved : goal.loop-part-preserved
loop-part-preserved c = each-step part_variables c.args.parts.now c.loop-part.part-index c.part-item.result (map variable_of c.args.all.now) (map variable_of c.loop-part.all) (map variable_of c.add_variables.new.all) c.loop-part-test.true c.part-item.is c.loop-part.invariant (c.in_ok-add_variables.ensures ∙ ap (λ vs. with_variables (map variable_of c.loop-part.all) (map variable_of vs)) c.as_slice.ensures)
