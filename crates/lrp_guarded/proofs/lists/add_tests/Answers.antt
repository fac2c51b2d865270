use Rattle.std.proofs.Common.{map}
use Rattle.lrp_core.specs.FreeVariables.{variable_of}
use Rattle.lrp_core.proofs.VariableLists.{each-step}
use Rattle.lrp_model.specs.Variables.{variables_of_test}
use Rattle.lrp_guarded.proofs.lists.add_tests.Goals as goal

pub loop-test-preserved : goal.loop-test-preserved
loop-test-preserved c = each-step variables_of_test c.args.tests.now c.loop-test.test-index c.test-item.result (map variable_of c.args.all.now) (map variable_of c.loop-test.all) (map variable_of c.add_test.new.all) c.loop-test-test.true c.test-item.is c.loop-test.invariant c.in_ok-add_test.ensures
