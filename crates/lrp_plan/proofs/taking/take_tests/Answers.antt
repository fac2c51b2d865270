use Rattle.lrp_plan.proofs.Turns.{no_tests}
use Rattle.lrp_plan.proofs.taking.take_tests.Goals as goal

pub loop-turn-init : goal.loop-turn-init
loop-turn-init c = no_tests c.args.draft.now c.args.taking.now

pub loop-turn-preserved : goal.loop-turn-preserved
loop-turn-preserved c = c.in_ok-take_next.ensures.next _ _ _ c.loop-turn.invariant
