-- The one that is not later, and each is not later than itself.
use Rattle.lrp_packed.proofs.Leading.{not_later_itself}
use Rattle.lrp_keep.proofs.states.nearer.Goals as goal

pub returns-then-is_not_later-clause-one : goal.returns-then-is_not_later-clause-one
returns-then-is_not_later-clause-one c = not_later_itself c.args.one

pub returns-else-is_not_later-clause-other : goal.returns-else-is_not_later-clause-other
returns-else-is_not_later-clause-other c = not_later_itself c.args.other
