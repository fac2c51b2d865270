use Rattle.lrp_plan.proofs.Takes.{select_more}
use Rattle.lrp_plan.proofs.taking.select_each.Goals as goal

pub loop-test-preserved : goal.loop-test-preserved
loop-test-preserved c = select_more c.loop-test.yielded c.in-Some.test c.args.draft.now c.loop-test.draft c.select.new.self c.loop-test.invariant c.in_ok-select.ensures
