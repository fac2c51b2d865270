use Rattle.std.proofs.Common.{◌≡◌, ◌+◌, ◌*◌, max, arith}
use Rattle.lrp_plan.proofs.Draws.{takes_off}
use Rattle.lrp_plan.proofs.drafts.Draft.minus.Goals as goal

pub returns : goal.returns
returns c =
    let e : c.with_two_periods-reach.result ≡ max c.args.left.reach c.args.self.now.last.reach + 2 * c.common_period-period.result.number = omega arith in
    takes_off c.add.result c.args.left c.common_period-period.result.number c.with_two_periods-reach.result c.args.self.now c.add.new.self c.common_period-period.ensures e c.add.ensures
