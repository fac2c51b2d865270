use Rattle.std.proofs.Common.{map, not, ap}
use Rattle.lrp_core.specs.FreeVariables.{variable_of}
use Rattle.lrp_model.specs.Variables.{is_among}
use Rattle.lrp_guarded.proofs.Kept.{kept_more}
use Rattle.lrp_guarded.proofs.lists.shared.Goals as goal

pub loop-variable-preserved : goal.loop-variable-preserved
loop-variable-preserved c =
    kept_more (is_among (map variable_of c.args.others.now)) c.args.all.now c.loop-variable.variable-index c.variable-item.result c.is_among.result (map variable_of c.loop-variable.found) (map variable_of c.keep_if.new.found) c.loop-variable-test.true c.variable-item.is c.is_among.ensures c.loop-variable.invariant c.in_ok-keep_if.ensures
