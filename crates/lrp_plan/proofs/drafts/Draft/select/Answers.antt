use Rattle.lrp_plan.proofs.Draws.{selects_last}
use Rattle.lrp_plan.proofs.drafts.Draft.select.Goals as goal

pub returns : goal.returns
returns c = selects_last c.select_from.result c.args.test c.args.self.now c.select_from.new.self c.select_from.ensures
