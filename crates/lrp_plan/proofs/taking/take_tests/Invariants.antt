use Rattle.lrp_plan.specs.Elements.{TakesTests}
use Rattle.lrp_plan.proofs.taking.take_tests.Given as goal

-- this many turns were made
abbrev pub invariant-loop-turn : goal.invariant-loop-turn
invariant-loop-turn l = TakesTests l._turn l.fn.draft l.draft l.fn.taking l.taking
