use Rattle.std.proofs.Common.{◌≡◌, ◌+◌, max, arith}
use Rattle.lrp_plan.proofs.Draws.{unions}
use Rattle.lrp_plan.proofs.drafts.Draft.union.Goals as goal

pub returns : goal.returns
returns c =
    let e : c.with_period-reach.result ≡ max c.args.left.reach c.args.self.now.last.reach + c.common_period-period.result.number = omega arith in
    unions c.add.result c.args.left c.common_period-period.result.number c.with_period-reach.result c.args.self.now c.add.new.self c.common_period-period.ensures e c.add.ensures
