-- Where one value fails, all of them do.
use Rattle.lrp_steps.proofs.ReadRows.{never_by}
use Rattle.lrp_steps.proofs.rows.may_have.Goals as goal

pub returns-then-not-may_be : goal.returns-then-not-may_be
returns-then-not-may_be c = λ _. never_by c.args.values.now c.args.terms.now c.loop-i.i c.at.result.now c.at-in-loop-i.result.now c.at.ensures c.at-in-loop-i.ensures (c.may_be.ensures (let f = c.if-not-may_be.true in cc))
