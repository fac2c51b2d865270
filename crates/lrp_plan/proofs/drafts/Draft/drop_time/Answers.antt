use Rattle.lrp_plan.proofs.Draws.{adds_same}
use Rattle.lrp_plan.proofs.drafts.Draft.drop_time.Goals as goal

pub returns : goal.returns
returns c = adds_same c.add.result _ c.args.of.period.number c.doubled-reach.result _ c.args.self.now c.add.new.self c.doubled-reach.ensures c.add.ensures
