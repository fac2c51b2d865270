use Rattle.lrp_kept.proofs.Outlined.{narrowed_twice, not_narrowed}
use Rattle.lrp_kept.proofs.outlines.narrow.Goals as goal

pub loop-i-init : goal.loop-i-init
loop-i-init c = not_narrowed c.args.times.now c.args.placed.now c.args.count c.requires.size

pub loop-i-preserved : goal.loop-i-preserved
loop-i-preserved c = narrowed_twice c.args.times.now c.loop-i.times c.narrow_at.new.times c.args.placed.now c.args.count c.loop-i.invariant c.narrow_at.ensures
