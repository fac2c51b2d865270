use Rattle.std.proofs.Common.{rules}
use Rattle.lrp_plan.specs.Waiting.{goes_first}
use Rattle.lrp_plan.proofs.WaitingLaws.{alone, first_where_none}
use Rattle.lrp_plan.proofs.waiting.is_first_next.Goals as goal

pub returns-then-len-le1 : goal.returns-then-len-le1
returns-then-len-le1 c = λ e. alone (goes_first c.args.turn c.args.variables.now) c.args.elements.now.items (search rules)

pub returns : goal.returns
returns c = λ e. first_where_none (goes_first c.args.turn c.args.variables.now) c.args.elements.now.items (c.none_goes.ensures e)
