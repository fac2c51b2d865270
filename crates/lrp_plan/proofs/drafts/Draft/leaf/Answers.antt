use Rattle.std.proofs.Common.{◌≡◌, rules}
use Rattle.lrp_model.specs.Reach.{test_reach}
use Rattle.lrp_limits.specs.Capped.{capped}
use Rattle.lrp_plan.proofs.Draws.{tests_alone}
use Rattle.lrp_plan.proofs.drafts.Draft.leaf.Goals as goal

pub returns : goal.returns
returns c =
    let e : c.from-reach.result ≡ capped (test_reach c.args.test) = search rules in
    tests_alone c.add.result c.args.test c.period_of-period.result.number c.from-reach.result c.args.self.now c.add.new.self c.period_of-period.ensures e c.add.ensures
