use Rattle.std.proofs.Common.{◌≡◌, ◌+◌, max, map, arith, rules}
use Rattle.lrp_model.specs.Reach.{greatest, test_reach}
use Rattle.lrp_limits.specs.Capped.{capped}
use Rattle.lrp_plan.proofs.Draws.{joins}
use Rattle.lrp_plan.proofs.drafts.Draft.join.Goals as goal

pub returns : goal.returns
returns c =
    let t : c.tests_reach.result ≡ capped (greatest (map test_reach c.args.tests)) = search rules in
    let e : c.with_period-reach.result ≡ max (max c.args.left.reach c.args.self.now.last.reach) c.tests_reach.result + c.common_period-period.result.number = omega arith in
    joins c.add.result c.args.left c.args.tests c.common_period-period.result.number c.tests_reach.result c.with_period-reach.result c.args.self.now c.add.new.self c.common_period-period.ensures t e c.add.ensures
