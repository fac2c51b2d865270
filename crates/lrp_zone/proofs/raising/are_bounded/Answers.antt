-- A value that passes an end shows that no tuple is in the box.
use Rattle.std.proofs.Common.{arith}
use Rattle.std.proofs.lemmas.Int.{ints}
use Rattle.lrp_zone.proofs.Raised.{none_passed}
use Rattle.lrp_zone.proofs.raising.are_bounded.Goals as goal

pub returns-then-not-is_bounded-clause-none : goal.returns-then-not-is_bounded-clause-none
returns-then-not-is_bounded-clause-none c = λ t low a.
    none_passed c.args.zone.now low c.args.values.now c.args.high.now c.loop-i.i _ _ c.bound.result (omega arith) (λ b. cc (c.is_bounded.ensures.1 b, c.if-not-is_bounded.true)) (omega (arith, ints)) (omega (arith, ints)) c.bound.ensures a
