-- One cell more goes to the end.
use Rattle.lrp_slots.specs.Medium.{medium_cell}
use Rattle.lrp_slots.specs.Narrow.{wide}
use Rattle.lrp_slots.proofs.Keyed.{after_read, pushed_read}
use Rattle.lrp_slots.proofs.in_line.widened.Goals as goal

pub push-requires : goal.push-requires
push-requires c =
    after_read wide c.entries-entries.result.now c.args.narrow.now c.loop-i.medium c.loop-i.i _ (medium_cell c.of_narrow.result) c.entries-entries.ensures.ordered c.entries-entries.ensures.entries c.loop-i-test.true c.loop-i.invariant c.of_narrow.ensures

pub loop-i-preserved : goal.loop-i-preserved
loop-i-preserved c =
    pushed_read wide c.entries-entries.result.now c.args.narrow.now c.loop-i.medium c.push.new.self c.loop-i.i _ (medium_cell c.of_narrow.result) c.entries-entries.ensures.entries c.loop-i-test.true c.loop-i.invariant c.of_narrow.ensures c.in_ok-push.ensures
