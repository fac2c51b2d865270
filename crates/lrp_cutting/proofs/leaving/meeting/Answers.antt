-- One more cutter is looked at.
use Rattle.std.proofs.Common.{◌≡◌, ◌+◌, ◌++◌, ◌∷◌, [], take, sym, subst, ◌∙◌}
use Rattle.lrp_cutting.specs.Leaving.{AreMeeting}
use Rattle.lrp_cutting.proofs.Lists.{front_more, read}
use Rattle.lrp_cutting.proofs.LeavingLaws.{meeting_more, meeting_same}
use Rattle.lrp_cutting.proofs.leaving.meeting.Goals.{then-have_common+in_ok-push, else-have_common}
use Rattle.lrp_cutting.proofs.leaving.meeting.Goals as goal

pub have_common-requires : goal.have_common-requires
have_common-requires c = c.requires.cell.each c.cutter-item.result (read _ _ _ c.loop-cutter-test.true c.cutter-item.is)

pub loop-cutter-preserved : goal.loop-cutter-preserved
loop-cutter-preserved c =
    let more : take (c.loop-cutter.cutter-index + 1) c.args.cutters.now ≡ take c.loop-cutter.cutter-index c.args.cutters.now ++ c.cutter-item.result ∷ [] = front_more _ _ _ c.loop-cutter-test.true c.cutter-item.is in
    subst (λ l. AreMeeting c.args.zone.now l c.if-have_common.met) (sym more) (elim c.if-have_common.branch [
      | then-have_common+in_ok-push w ↦ subst (λ l. AreMeeting c.args.zone.now (take c.loop-cutter.cutter-index c.args.cutters.now ++ c.cutter-item.result ∷ []) l) (sym (w.met-is ∙ w.in_ok-push.ensures.ok))
          (meeting_more c.args.zone.now c.cutter-item.result _ c.loop-cutter.met c.loop-cutter.invariant (c.have_common.ensures.0 w.if-have_common.true))
      | else-have_common w ↦ subst (λ l. AreMeeting c.args.zone.now (take c.loop-cutter.cutter-index c.args.cutters.now ++ c.cutter-item.result ∷ []) l) (sym w.met-is)
          (meeting_same c.args.zone.now c.cutter-item.result _ c.loop-cutter.met c.loop-cutter.invariant (λ h. cc (c.have_common.ensures.1 h, w.if-have_common.false)))
    ])
