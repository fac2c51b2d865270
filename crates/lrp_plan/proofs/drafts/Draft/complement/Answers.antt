use Rattle.lrp_plan.proofs.Draws.{complements}
use Rattle.lrp_plan.proofs.drafts.Draft.complement.Goals as goal

pub returns : goal.returns
returns c = complements c.add.result _ c.args.self.now c.add.new.self c.with_two_periods-reach.ensures c.add.ensures
