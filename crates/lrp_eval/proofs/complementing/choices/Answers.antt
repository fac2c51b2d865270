-- One column more.
use Rattle.std.proofs.Common.{◌≡◌, ◌+◌, ◌*◌, ◌++◌, ◌∷◌, [], length, ◌≤◌, take, take_all, refl, ap, sym, subst, ◌∙◌}
use Rattle.lrp_cutting.proofs.Lists.{front_more}
use Rattle.lrp_eval.specs.Together.{ways_for}
use Rattle.lrp_eval.proofs.ComplementCounts.{same_count, ways_none, ways_some, ways_step}
use Rattle.lrp_eval.proofs.complementing.choices.Goals.{then-is_none+in-Some, else-is_none}
use Rattle.lrp_eval.proofs.complementing.choices.Goals as goal

pub loop-name-init : goal.loop-name-init
loop-name-init c = refl

pub loop-name-preserved : goal.loop-name-preserved
loop-name-preserved c =
    let more : take (c.loop-name.name-index + 1) c.args.names.now ≡ take c.loop-name.name-index c.args.names.now ++ c.name-item.result ∷ [] =
    subst (λ ns. take (c.loop-name.name-index + 1) ns ≡ take c.loop-name.name-index ns ++ c.name-item.result ∷ []) c.as_slice-name-items.ensures (front_more c.as_slice-name-items.result.now c.loop-name.name-index c.name-item.result c.loop-name-test.true c.name-item.is) in
    ways_step c.args.others.now c.args.period c.args.names.now c.loop-name.name-index c.name-item.result c.loop-name.count c.if-is_none.count more c.loop-name.invariant (elim c.if-is_none.branch [
      | then-is_none+in-Some w ↦ w.count-is ∙ w.in-Some.ensures.0 ∙ ap (λ k. c.loop-name.count * k) (sym (ways_none c.args.others.now c.args.period c.name-item.result c.place_of.result c.is_none.result c.is_none.ensures w.if-is_none.true c.place_of.ensures.none))
      | else-is_none w ↦ same_count c.loop-name.count _ c.if-is_none.count w.count-is (ways_some c.args.others.now c.args.period c.name-item.result c.place_of.result c.is_none.result c.is_none.ensures w.if-is_none.false c.place_of.ensures.some)
    ])

pub returns : goal.returns
returns c = c.loop-name.invariant ∙ ap (ways_for c.args.others.now c.args.period) (take_all c.loop-name.name-index c.args.names.now (subst (λ ns. length ns ≤ c.loop-name.name-index) c.as_slice-name-items.ensures c.loop-name-test.false))
