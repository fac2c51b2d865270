use Rattle.std.proofs.Common.{◌≡◌, flat_map, map, take}
use Rattle.lrp_core.specs.FreeVariables.{variable_of, with_variables}
use Rattle.lrp_model.specs.Variables.{variables_of_test}
use Rattle.lrp_guarded.proofs.lists.add_tests.Given as goal

-- the variables of the tests so far were added
abbrev pub invariant-loop-test : goal.invariant-loop-test
invariant-loop-test l = map variable_of l.all ≡ with_variables (map variable_of l.fn.all) (flat_map variables_of_test (take l.test-index l.tests))
