use Rattle.std.proofs.Common.{rules}
use Rattle.lrp_plan.proofs.Draws.{heads}
use Rattle.lrp_plan.proofs.drafts.Draft.extend.Goals as goal

pub returns : goal.returns
returns c = heads c.add.result c.args.period.number c.from-reach.result c.args.self.now c.add.new.self (search rules) c.add.ensures
