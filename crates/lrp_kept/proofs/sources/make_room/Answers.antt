use Rattle.std.proofs.Common.{sym, subst}
use Rattle.lrp_kept.specs.Labels.{ExtendsLabels}
use Rattle.lrp_kept.proofs.Labelled.{none_longer, one_longer}
use Rattle.lrp_kept.proofs.sources.make_room.Goals as goal

pub loop-labels-init : goal.loop-labels-init
loop-labels-init c = none_longer c.args.labels.now.items

pub loop-labels-preserved : goal.loop-labels-preserved
loop-labels-preserved c = subst (ExtendsLabels c.args.labels.now.items) (sym c.in_ok-push.ensures.items) (one_longer c.args.labels.now.items c.loop-labels.labels.items _ c.loop-labels.invariant)
