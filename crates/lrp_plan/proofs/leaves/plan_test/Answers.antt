use Rattle.lrp_core.specs.Cores.{test_of}
use Rattle.lrp_plan.proofs.Planned.{test_made}
use Rattle.lrp_plan.proofs.leaves.plan_test.Goals as goal

pub returns : goal.returns
returns c = test_made c.leaf.result (test_of c.args.test.now) c.in_ok-test.test c.args.draft.now c.leaf.new.self c.in_ok-test.ensures c.leaf.ensures
