-- What is left of one more side is appended.
use Rattle.std.proofs.Common.{◌≡◌, ◌+◌, ◌<◌, ◌≤◌, ◌++◌, ◌∷◌, [], length, take, max, arith, ap, sym, subst, ◌∙◌}
use Rattle.std.specs.Prelude.{AllPairs, Contains}
use Rattle.std.proofs.Math.Seq.{take-length}
use Rattle.std.proofs.lemmas.Bool.{eqb-true}
use Rattle.lrp_zone.specs.Zones.{reach_of}
use Rattle.lrp_zone.specs.Pairs.{HaveNoCommon}
use Rattle.lrp_cutting.specs.Cutting.{side_reach}
use Rattle.lrp_cutting.specs.Differences.{greatest_reach}
use Rattle.lrp_cutting.specs.Leaving.{AppendsLeft}
use Rattle.lrp_cutting.proofs.CutLaws.{cells_moved}
use Rattle.lrp_cutting.proofs.Lists.{front_more, on_ok, reach_below, read}
use Rattle.lrp_cutting.proofs.LeavingLaws.{goes_on, left_all, left_more, left_start, left_whole, reach_met, side_apart, side_undivided}
use Rattle.lrp_cutting.proofs.leaving.+add_left.Goals as goal

pub returns-then-is_empty : goal.returns-then-is_empty
returns-then-is_empty t c =
    let none : length c.args.cutters.now ≡ 0 = eqb-true (length c.args.cutters.now) 0 (sym c.is_empty.ensures ∙ c.if-is_empty.true) in
    on_ok (c.push.new.self ≡ c.args.made.now ++ c.args.part.now ∷ []) _ c.push.result
    (λ e h small high. subst (λ l. AppendsLeft c.args.part.now (c.args.part.now ∷ []) c.args.cutters.now h c.args.made.now l) (sym e) (left_whole c.args.part.now c.args.cutters.now h c.args.made.now c.requires.zone none small)) c.push.ensures.ok

pub meeting-requires : goal.meeting-requires
meeting-requires t c =
    let l : Contains c.in_ok-sides.sides c.side-item.result = subst (λ x. Contains x c.side-item.result) c.as_slice-side-items.ensures (read _ _ _ c.loop-side-test.true c.side-item.is) in
    record { cell = cells_moved c.args.part.now c.side-item.result c.args.cutters.now (c.in_ok-sides.ensures.left.zones c.side-item.result l).1 c.requires.cell }

pub add_left-requires : goal.add_left-requires
add_left-requires t c =
    let l : Contains c.in_ok-sides.sides c.side-item.result = subst (λ x. Contains x c.side-item.result) c.as_slice-side-items.ensures (read _ _ _ c.loop-side-test.true c.side-item.is) in
    let on = goes_on c.args.part.now c.in_ok-sides.ensures.cutter _ c.in_ok-sides.sides c.args.cutters.now c.in_ok-sides.ensures.listed c.in_ok-sides.ensures.left c.side-item.result l c.in_ok-met.met c.in_ok-met.ensures _ c.as_slice.ensures c.requires.cell c.requires.reach in
    let fewer : length c.as_slice.result.now < length c.args.cutters.now = on.0 in
    (omega (arith, c.decreases, fewer), ((c.in_ok-sides.ensures.left.zones c.side-item.result l).0, (on.1, on.2)))

pub loop-side-init : goal.loop-side-init
loop-side-init t c = λ h small high. left_start c.args.part.now c.args.cutters.now h c.args.made.now

pub loop-side-preserved : goal.loop-side-preserved
loop-side-preserved t c = λ h small high.
    let l : Contains c.in_ok-sides.sides c.side-item.result = subst (λ x. Contains x c.side-item.result) c.as_slice-side-items.ensures (read _ _ _ c.loop-side-test.true c.side-item.is) in
    let more : take (c.loop-side.side-index + 1) c.as_slice-side-items.result.now ≡ take c.loop-side.side-index c.as_slice-side-items.result.now ++ c.side-item.result ∷ [] = front_more _ _ _ c.loop-side-test.true c.side-item.is in
    let less : greatest_reach c.in_ok-met.met ≤ greatest_reach c.args.cutters.now = reach_met c.args.part.now c.in_ok-sides.ensures.cutter _ c.in_ok-sides.sides c.args.cutters.now c.in_ok-sides.ensures.listed c.in_ok-sides.ensures.left c.side-item.result l c.in_ok-met.met c.in_ok-met.ensures in
    let low : reach_of c.in_ok-sides.ensures.cutter ≤ greatest_reach c.args.cutters.now = reach_below c.args.cutters.now c.in_ok-sides.ensures.cutter c.in_ok-sides.ensures.listed in
    let side : reach_of c.side-item.result ≤ max (reach_of c.args.part.now) (reach_of c.in_ok-sides.ensures.cutter + c.args.part.now.period) = c.in_ok-sides.ensures.left.reach c.side-item.result l in
    let period : c.side-item.result.period ≡ c.args.part.now.period = (c.in_ok-sides.ensures.left.zones c.side-item.result l).1.period in
    let top : greatest_reach c.args.cutters.now + c.args.part.now.period ≤ h = high in
    let part : reach_of c.args.part.now ≤ h = small in
    subst (λ x. AppendsLeft c.args.part.now x c.args.cutters.now h c.args.made.now c.add_left.new.made) (sym more)
    (left_more c.args.part.now c.side-item.result _ c.args.cutters.now c.in_ok-met.met h c.args.made.now c.loop-side.made c.add_left.new.made (c.in_ok-sides.ensures.left.zones c.side-item.result l).1
    (side_undivided c.args.part.now c.in_ok-sides.ensures.cutter _ c.in_ok-sides.sides c.args.cutters.now c.side-item.result c.in_ok-sides.ensures.listed c.in_ok-sides.ensures.left l)
    (side_apart c.as_slice-side-items.result.now c.loop-side.side-index c.side-item.result (subst (AllPairs HaveNoCommon) (sym c.as_slice-side-items.ensures) c.in_ok-sides.ensures.left.disjoint) c.loop-side-test.true c.side-item.is)
    c.in_ok-met.ensures (c.loop-side.invariant h small high)
    (subst (λ x. AppendsLeft c.side-item.result (c.side-item.result ∷ []) x h c.loop-side.made c.add_left.new.made) c.as_slice.ensures
    (c.in_ok-add_left.ensures h (omega (arith, low, side, top, part)) (subst (λ x. side_reach c.side-item.result.period x ≤ h) (sym c.as_slice.ensures) (omega (arith, less, period, top))))))

pub returns : goal.returns
returns t c = λ h small high.
    let all : c.loop-side.side-index ≡ length c.as_slice-side-items.result.now = omega (arith, c.loop-side.auto.side-index-end, c.loop-side-test.false) in
    let whole : take c.loop-side.side-index c.as_slice-side-items.result.now ≡ c.in_ok-sides.sides = ap (λ n. take n c.as_slice-side-items.result.now) all ∙ take-length c.as_slice-side-items.result.now ∙ c.as_slice-side-items.ensures in
    left_all c.args.part.now c.in_ok-sides.ensures.cutter _ h c.in_ok-sides.sides c.args.cutters.now c.args.made.now c.loop-side.made c.in_ok-sides.ensures.listed c.in_ok-sides.ensures.left
    (subst (λ x. AppendsLeft c.args.part.now x c.args.cutters.now h c.args.made.now c.loop-side.made) whole (c.loop-side.invariant h small high))
