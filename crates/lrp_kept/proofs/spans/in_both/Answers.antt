-- Place after place is narrowed.
use Rattle.std.proofs.Common.{refl}
use Rattle.lrp_kept.proofs.Spanning.{none_in_both, one_in_both}
use Rattle.lrp_kept.proofs.spans.in_both.Goals as goal

pub loop-i-init : goal.loop-i-init
loop-i-init c = none_in_both c.args.left.now c.args.right.now _ refl refl refl

pub loop-i-preserved : goal.loop-i-preserved
loop-i-preserved c = one_in_both c.args.left.now c.args.right.now c.loop-i.all _ c.loop-i.i c.index-left-i.result c.index-right-i.result c.with.result c.loop-i-test.true c.requires.left c.requires.right c.with.ensures refl c.loop-i.invariant

pub returns-clause-is : goal.returns-clause-is
returns-clause-is c = c.loop-i.invariant.is
