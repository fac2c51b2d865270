use Rattle.lrp_kept.proofs.Drafted.{none_added, one_added}
use Rattle.lrp_kept.proofs.disjuncts.add_each.Goals as goal

pub loop-core-init : goal.loop-core-init
loop-core-init c = none_added c.args.draft.now

pub loop-core-preserved : goal.loop-core-preserved
loop-core-preserved c =
    one_added c.args.cores.now c.loop-core.core-index c.core-item.result c.args.draft.now c.loop-core.draft c.add_element.new.draft c.loop-core-test.true c.core-item.is c.loop-core.invariant c.in_ok-add_element.ensures
