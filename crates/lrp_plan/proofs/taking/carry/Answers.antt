use Rattle.lrp_plan.proofs.Takes.{carry_some, carry_none}
use Rattle.lrp_plan.proofs.taking.carry.Goals as goal

pub returns-in-Some : goal.returns-in-Some
returns-in-Some c = carry_some c.join.result c.args.left c.in-Some.left c.args.tests c.args.draft.now c.join.new.self c.in-Some.is c.join.ensures

pub returns-in-None : goal.returns-in-None
returns-in-None c = carry_none c.select_each.result c.args.left c.args.tests c.args.draft.now c.select_each.new.draft c.in-None.is c.select_each.ensures
