use Rattle.std.proofs.Common.{◌+◌, ◌-◌, length}
use Rattle.lrp_kept.specs.Labels.{ExtendsLabels}
use Rattle.lrp_kept.proofs.sources.make_room.Given as goal

-- the labels that were there still are
abbrev pub invariant-loop-labels : goal.invariant-loop-labels
invariant-loop-labels l = ExtendsLabels l.fn.labels.items l.labels.items

abbrev pub decreases-loop-labels : goal.decreases-loop-labels
decreases-loop-labels l = l.key + 1 - length l.labels.items
