use Rattle.lrp_plan.proofs.Planned.{sorted_made}
use Rattle.lrp_plan.proofs.leaves.plan_sorted.Goals as goal

pub returns : goal.returns
returns c =
    sorted_made c.sort.result c.args.sources.now c.args.name.now c.in_ok-name.name c.args.sort.now c.in_ok-sort.sort c.in_ok-texts.texts c.args.draft.now c.sort.new.self c.in_ok-name.ensures c.in_ok-sort.ensures c.in_ok-texts.ensures c.sort.ensures
