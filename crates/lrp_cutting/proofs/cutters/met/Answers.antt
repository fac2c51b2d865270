-- One more cutter is looked at.
use Rattle.std.proofs.Common.{◌≡◌, ◌+◌, ◌++◌, ◌∷◌, [], None, ap, arith, length, get_or, sym, subst, take, ◌∙◌}
use Rattle.std.proofs.Math.Seq.{take-length}
use Rattle.std.proofs.lemmas.List.{take_more}
use Rattle.std.proofs.lemmas.List.Elements.{Contains-get_or}
use Rattle.lrp_cutting.specs.declared.windows.CutterWindow.{CutterWindow as Window}
use Rattle.lrp_cutting.proofs.Lists.{got_in}
use Rattle.lrp_cutting.proofs.NearLaws.{AreMetOf, met_all, met_more, met_same}
use Rattle.lrp_cutting.proofs.cutters.met.Goals as goal
use Rattle.lrp_cutting.proofs.cutters.met.Goals.{then-have_common+in_ok-push, else-have_common}

-- what the list has after its end
abbrev nowhere : Window
nowhere = record { least = None; most = None; place = 0 }

pub at-cutter-requires : goal.at-cutter-requires
at-cutter-requires c = c.requires.near.listed (get_or c.args.near.now c.loop-window.window-index nowhere) (Contains-get_or c.args.near.now c.loop-window.window-index nowhere c.loop-window-test.true)

pub have_common-requires : goal.have_common-requires
have_common-requires c = c.requires.cell.each c.at-cutter.result.now (got_in c.args.cutters.now _ c.at-cutter.result.now c.at-cutter.ensures)

pub loop-window-preserved : goal.loop-window-preserved
loop-window-preserved c =
    let more : take (c.loop-window.window-index + 1) c.args.near.now ≡ take c.loop-window.window-index c.args.near.now ++ get_or c.args.near.now c.loop-window.window-index nowhere ∷ [] = take_more c.args.near.now c.loop-window.window-index nowhere c.loop-window-test.true in
    subst (λ l. AreMetOf c.args.zone.now c.args.cutters.now l c.if-have_common.met) (sym more) (elim c.if-have_common.branch [
      | then-have_common+in_ok-push w ↦ subst (λ l. AreMetOf c.args.zone.now c.args.cutters.now (take c.loop-window.window-index c.args.near.now ++ get_or c.args.near.now c.loop-window.window-index nowhere ∷ []) l) (sym (w.met-is ∙ w.in_ok-push.ensures.ok))
          (met_more c.args.zone.now c.args.cutters.now _ c.loop-window.met c.loop-window.invariant (get_or c.args.near.now c.loop-window.window-index nowhere) c.at-cutter.result.now c.at-cutter.ensures)
      | else-have_common w ↦ subst (λ l. AreMetOf c.args.zone.now c.args.cutters.now (take c.loop-window.window-index c.args.near.now ++ get_or c.args.near.now c.loop-window.window-index nowhere ∷ []) l) (sym w.met-is)
          (met_same c.args.zone.now c.args.cutters.now _ c.loop-window.met c.loop-window.invariant (get_or c.args.near.now c.loop-window.window-index nowhere) c.at-cutter.result.now c.at-cutter.ensures (λ h. cc (c.have_common.ensures.1 h, w.if-have_common.false)))
    ])

pub returns : goal.returns
returns c =
    let all : c.loop-window.window-index ≡ length c.args.near.now = omega (arith, c.loop-window.auto.window-index-end, c.loop-window-test.false) in
    let whole : take c.loop-window.window-index c.args.near.now ≡ c.args.near.now = ap (λ n. take n c.args.near.now) all ∙ take-length c.args.near.now in
    met_all c.args.zone.now c.args.cutters.now c.args.near.now c.loop-window.met c.requires.near (subst (λ l. AreMetOf c.args.zone.now c.args.cutters.now l c.loop-window.met) whole c.loop-window.invariant)
