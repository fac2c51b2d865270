-- The one that stays is not later than itself.
use Rattle.lrp_outputs.proofs.PartLeasts.{not_later_itself}
use Rattle.lrp_outputs.proofs.least.nearer.Goals as goal

pub returns-then-is_not_later-clause-first : goal.returns-then-is_not_later-clause-first
returns-then-is_not_later-clause-first c = not_later_itself c.args.a.least

pub returns-else-is_not_later-clause-second : goal.returns-else-is_not_later-clause-second
returns-else-is_not_later-clause-second c = not_later_itself c.args.b.least
