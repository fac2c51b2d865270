use Rattle.std.proofs.Common.{◌≡◌, filter, take}
use Rattle.lrp_kept.specs.Disjuncts.{is_test_covered}
use Rattle.lrp_kept.proofs.disjuncts.covered.Given as goal

-- of the tests so far
abbrev pub invariant-loop-test : goal.invariant-loop-test
invariant-loop-test l = l.all ≡ filter (is_test_covered l.vars.times l.vars.texts) (take l.test-index l.tests)
