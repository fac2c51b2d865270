-- The pattern asks that the tests that are after pass.
use Rattle.std.proofs.Common.{take}
use Rattle.lrp_steps.specs.Conditions.{IsWithTests}
use Rattle.lrp_steps.proofs.tested.with_tests.Given as goal

abbrev pub invariant-loop-test : goal.invariant-loop-test
invariant-loop-test l = IsWithTests l.domain l.vars.times l.vars.texts (take l.test-index l.tests) l.pattern
