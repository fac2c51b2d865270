use Rattle.std.proofs.Common.{◌≡◌, filter, not, map}
use Rattle.lrp_core.specs.FreeVariables.{variable_of}
use Rattle.lrp_plan.specs.Taking.{covers}
use Rattle.lrp_plan.proofs.taking.split_covered.Given as goal

-- the tests so far were split
abbrev pub invariant-loop-test : goal.invariant-loop-test
invariant-loop-test l = record {
  covered : l.covered ≡ filter (covers (map variable_of l.variables)) l.yielded;
  others : l.others ≡ filter (λ t. not (covers (map variable_of l.variables) t)) l.yielded;
}
