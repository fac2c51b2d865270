use Rattle.lrp_guarded.proofs.Guarding.{joins_some}
use Rattle.lrp_guarded.proofs.builder.join_guard.Goals as goal

pub returns-else-is_step : goal.returns-else-is_step
returns-else-is_step c = joins_some c.join.result c.args.guard c.args.own c.in-Some.guard c.is_step.result c.new.result c.args.making.now c.join.new.self c.in-Some.is c.is_step.ensures c.if-is_step.false c.new.ensures c.join.ensures
