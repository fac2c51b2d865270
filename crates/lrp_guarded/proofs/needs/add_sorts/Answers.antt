use Rattle.std.proofs.Common.{◌∙◌, map, ap}
use Rattle.lrp_core.specs.FreeVariables.{variable_of, with_variables}
use Rattle.lrp_core.proofs.VariableLists.{each-step}
use Rattle.lrp_guarded.proofs.needs.add_sorts.Goals as goal

pub loop-sort-preserved : goal.loop-sort-preserved
loop-sort-preserved c = each-step (λ e. map variable_of e.variables.now) c.args.sorts.now c.loop-sort.sort-index c.sort-item.result (map variable_of c.args.all.now) (map variable_of c.loop-sort.all) (map variable_of c.add_variables.new.all) c.loop-sort-test.true c.sort-item.is c.loop-sort.invariant (c.in_ok-add_variables.ensures ∙ ap (λ vs. with_variables (map variable_of c.loop-sort.all) (map variable_of vs)) c.as_slice.ensures)
