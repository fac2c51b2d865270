use Rattle.std.proofs.Common.{◌∷◌, ◌++◌, [], ◌+◌, ◌∙◌, map, take, sym, ap}
use Rattle.std.proofs.lemmas.List.{take_more}
use Rattle.lrp_core.specs.FreeVariables.{variable_of}
use Rattle.lrp_core.proofs.VariableLists.{variables-step}
use Rattle.lrp_core.proofs.variables.add_variables.Goals as goal

pub loop-variable-preserved : goal.loop-variable-preserved
loop-variable-preserved c =
    variables-step (take c.loop-variable.variable-index c.args.more.now) (take (c.loop-variable.variable-index + 1) c.args.more.now) c.variable-item.result (map variable_of c.args.all.now) (map variable_of c.loop-variable.all) (map variable_of c.add_copy.new.all)
    (take_more c.args.more.now c.loop-variable.variable-index c.variable-item.result c.loop-variable-test.true ∙ ap (λ x. take c.loop-variable.variable-index c.args.more.now ++ x ∷ []) (sym c.variable-item.is)) c.loop-variable.invariant c.in_ok-add_copy.ensures
