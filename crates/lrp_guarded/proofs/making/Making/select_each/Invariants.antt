use Rattle.lrp_guarded.proofs.Steps.{SelectsEach}
use Rattle.lrp_guarded.proofs.making.Making.select_each.Given as goal

-- the tests so far were selected
abbrev pub invariant-loop-test : goal.invariant-loop-test
invariant-loop-test l = SelectsEach l.fn.of l.yielded l.fn.self l.self l.last
