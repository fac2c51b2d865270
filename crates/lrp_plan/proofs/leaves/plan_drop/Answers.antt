use Rattle.lrp_plan.proofs.Planned.{drop_made}
use Rattle.lrp_plan.proofs.leaves.plan_drop.Goals as goal

pub returns : goal.returns
returns c = drop_made c.drop_variable.result c.args.name.now c.in_ok-name.name c.args.sort.now c.args.draft.now c.drop_variable.new.self c.in_ok-name.ensures c.drop_variable.ensures
