use Rattle.std.proofs.Common.{arith}
use Rattle.lrp_tense.proofs.Along.{ascends_further}
use Rattle.lrp_tense.proofs.counting.is_ascending.Goals as goal

pub loop-i-init : goal.loop-i-init
loop-i-init c = λ k lt. absurd (omega (arith, lt))

pub loop-i-preserved : goal.loop-i-preserved
loop-i-preserved c = ascends_further c.args.positions.now c.loop-i.i (omega (arith, c.loop-i.auto.i)) c.if-positions-i.false c.loop-i.invariant

pub returns : goal.returns
returns c = λ _ k lt. c.loop-i.invariant k (omega (arith, lt, c.loop-i-test.false))
