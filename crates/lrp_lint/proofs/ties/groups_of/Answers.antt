-- Bound after bound.
use Rattle.std.proofs.lemmas.Option.{slice_get-get_or}
use Rattle.lrp_lint.proofs.Tied.{all_alone}
use Rattle.lrp_lint.proofs.ties.groups_of.Goals as goal

pub loop-bound-init : goal.loop-bound-init
loop-bound-init c = all_alone c.args.bounds.now

pub loop-bound-preserved : goal.loop-bound-preserved
loop-bound-preserved c = c.tied-groups.ensures c.args.bounds.now c.loop-bound.bound-index c.loop-bound.invariant c.requires (slice_get-get_or c.args.bounds.now c.loop-bound.bound-index _ c.loop-bound-test.true)
