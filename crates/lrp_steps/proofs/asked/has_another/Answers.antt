-- Where one text is another, no values of the terms are these.
use Rattle.lrp_steps.proofs.ReadRows.{never_asked}
use Rattle.lrp_steps.proofs.asked.has_another.Goals as goal

pub returns-then-is_another : goal.returns-then-is_another
returns-then-is_another c = λ t. never_asked c.args.values.now c.args.asked.now c.loop-one.one-index c.one-item.result c.at.result.now c.loop-one-test.true c.one-item.is c.at.ensures (c.is_another.ensures c.if-is_another.true)
