-- The instants so far.
use Rattle.std.proofs.Common.{◌^◌}
use Rattle.lrp_table_tests.specs.Integers.{AreOfIntegers}
use Rattle.lrp_table_tests.proofs.cuts.instants.Given as goal

abbrev pub invariant-loop-turn : goal.invariant-loop-turn
invariant-loop-turn g l = AreOfIntegers (2 ^ 55) l.instants
