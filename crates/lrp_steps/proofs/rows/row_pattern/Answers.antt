-- Where a text of the terms has another one in its place, the row has no member.
use Rattle.lrp_steps.proofs.ReadRows.{row_never}
use Rattle.lrp_steps.proofs.rows.row_pattern.Goals as goal

pub returns-then-not-may_have : goal.returns-then-not-may_have
returns-then-not-may_have c = row_never c.args.domain.now c.args.vars.now.times c.args.vars.now.texts c.args.terms.now c.args.row.now (c.may_have.ensures (let f = c.if-not-may_have.true in cc))
