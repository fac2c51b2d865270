use Rattle.std.proofs.Common.{◌≡◌, ◌+◌, max, arith}
use Rattle.lrp_plan.proofs.Draws.{selects}
use Rattle.lrp_plan.proofs.drafts.Draft.select_from.Goals as goal

pub returns : goal.returns
returns c =
    let e : c.with_period-reach.result ≡ max c.args.of.reach c.test_reach.result + c.args.of.period.number = omega arith in
    selects c.add.result c.args.test c.test_reach.result c.with_period-reach.result c.args.of c.args.self.now c.add.new.self c.test_reach.ensures e c.add.ensures
