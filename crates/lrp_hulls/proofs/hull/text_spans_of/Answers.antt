-- One text more.
use Rattle.std.proofs.Common.{arith}
use Rattle.lrp_hulls.proofs.Hulled.{texts_more}
use Rattle.lrp_hulls.proofs.hull.text_spans_of.Goals as goal

pub loop-i-preserved : goal.loop-i-preserved
loop-i-preserved c = texts_more c.args.numbers.now c.loop-i.i c.loop-i.spans _ (omega (arith, c.loop-i-test.true)) c.loop-i.invariant (record { low = omega arith; high = omega arith })

pub returns : goal.returns
returns c = record { each = λ i low. c.loop-i.invariant.each i (omega (arith, low, c.loop-i-test.false)) }
