use Rattle.lrp_plan.proofs.Turns.{idles_test}
use Rattle.lrp_plan.proofs.Answered.{test_turned}
use Rattle.lrp_plan.proofs.taking.take_next.Goals as goal

pub returns-in-None : goal.returns-in-None
returns-in-None c = idles_test c.args.draft.now c.args.taking.now c.next_test.new.self c.in-None.ensures

pub returns-in-Some : goal.returns-in-Some
returns-in-Some c = test_turned c.take_test.result c.args.draft.now c.take_test.new.draft c.in-Some.test c.args.taking.now c.next_test.new.self c.take_test.new.self c.in-Some.ensures c.take_test.ensures
