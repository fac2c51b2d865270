use Rattle.std.proofs.Common.{arith}
use Rattle.lrp_kept.proofs.Sized.{most_at, most_past}
use Rattle.lrp_kept.proofs.limits.bound_at.Goals as goal

pub returns-then-number-relations : goal.returns-then-number-relations
returns-then-number-relations c = most_at c.args.relations.now c.args.number c.index-relations-number.result (omega arith)

pub returns-else-number-relations : goal.returns-else-number-relations
returns-else-number-relations c = most_past c.args.relations.now c.args.number (omega arith)
