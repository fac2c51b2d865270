use Rattle.std.proofs.Common.{◌≡◌, take, map}
use Rattle.lrp_model.specs.Reach.{greatest, test_reach}
use Rattle.lrp_limits.specs.Capped.{capped}
use Rattle.lrp_limits.proofs.reaches.tests_reach.Given as goal

-- the greatest of the tests so far
abbrev pub invariant-loop-test : goal.invariant-loop-test
invariant-loop-test l = l.reach ≡ capped (greatest (map test_reach (take l.test-index l.tests)))
