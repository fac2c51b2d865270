-- One more line is searched.
use Rattle.std.proofs.Common.{sym, subst}
use Rattle.lrp_cutting.specs.Windows.{AreNearIn}
use Rattle.lrp_cutting.proofs.Lists.{head_in, later, read}
use Rattle.lrp_cutting.proofs.NearLaws.{near_in}
use Rattle.lrp_cutting.proofs.cutters.nearest.Goals as goal
use Rattle.lrp_cutting.proofs.cutters.nearest.Goals.{then-other-near, else-other-near}

pub loop-line-init : goal.loop-line-init
loop-line-init c = λ cutters h. near_in c.args.zone.now cutters c.args.first.now c.near-near.result.now (h.each c.args.first.now (head_in c.args.first.now c.args.rest.now)) c.near-near.ensures

pub near-other-requires-clause-line : goal.near-other-requires-clause-line
near-other-requires-clause-line c = (c.requires.each c.line-item.result (later _ _ _ (read _ _ _ c.loop-line-test.true c.line-item.is))).0

pub near-other-requires-clause-column : goal.near-other-requires-clause-column
near-other-requires-clause-column c = (c.requires.each c.line-item.result (later _ _ _ (read _ _ _ c.loop-line-test.true c.line-item.is))).1

pub loop-line-preserved : goal.loop-line-preserved
loop-line-preserved c = λ cutters h. elim c.if-other-near.branch [
  | then-other-near w ↦ subst (λ n. AreNearIn c.args.zone.now cutters n.now) (sym w.near-is)
      (near_in c.args.zone.now cutters c.line-item.result c.near-other.result.now (h.each c.line-item.result (later _ _ _ (read _ _ _ c.loop-line-test.true c.line-item.is))) c.near-other.ensures)
  | else-other-near w ↦ subst (λ n. AreNearIn c.args.zone.now cutters n.now) (sym w.near-is) (c.loop-line.invariant cutters h)
]
