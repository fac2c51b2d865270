-- One more axis is searched.
use Rattle.std.proofs.Common.{sym, subst}
use Rattle.std.specs.Prelude.{Contains}
use Rattle.lrp_cutting.proofs.Lists.{read}
use Rattle.lrp_cutting.proofs.covering.narrowest.Goals as goal
use Rattle.lrp_cutting.proofs.covering.narrowest.Goals.{then-count-fewest, else-count-fewest}

pub loop-axis-init : goal.loop-axis-init
loop-axis-init c = read c.args.axes.now 0 c.index-axes-0.result c.requires.some c.index-axes-0.is

pub closed_window-requires : goal.closed_window-requires
closed_window-requires c = (c.requires.axes.each c.axis-item.result (read _ _ _ c.loop-axis-test.true c.axis-item.is)).1

pub holding-count-requires : goal.holding-count-requires
holding-count-requires c = (c.requires.axes.each c.axis-item.result (read _ _ _ c.loop-axis-test.true c.axis-item.is)).0

pub loop-axis-preserved : goal.loop-axis-preserved
loop-axis-preserved c = elim c.if-count-fewest.branch [
  | then-count-fewest w ↦ subst (λ n. Contains c.args.axes.now n.now) (sym w.narrowest-is) (read _ _ _ c.loop-axis-test.true c.axis-item.is)
  | else-count-fewest w ↦ subst (λ n. Contains c.args.axes.now n.now) (sym w.narrowest-is) c.loop-axis.invariant
]
