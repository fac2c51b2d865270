use Rattle.lrp_plan.proofs.Draws.{sorts}
use Rattle.lrp_plan.proofs.drafts.Draft.sort.Goals as goal

pub returns : goal.returns
returns c = sorts c.add.result c.args.name c.args.sort c.args.texts c.one.result.number c.args.self.now c.add.new.self c.one.ensures c.add.ensures
