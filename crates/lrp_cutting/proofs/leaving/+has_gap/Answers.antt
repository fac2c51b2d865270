-- One more side is searched.
use Rattle.std.proofs.Common.{◌≡◌, ◌+◌, ◌<◌, ◌++◌, ◌∷◌, [], inl, inr, length, take, arith, refl, ap, sym, subst, ◌∙◌}
use Rattle.std.specs.Prelude.{Contains}
use Rattle.std.proofs.Math.Seq.{take-length}
use Rattle.std.proofs.lemmas.Bool.{eqb-true}
use Rattle.std.proofs.lemmas.List.Elements.{Contains-append_cases}
use Rattle.lrp_cutting.specs.Leaving.{HasGap}
use Rattle.lrp_cutting.proofs.CutLaws.{cells_moved}
use Rattle.lrp_cutting.proofs.Lists.{front_more, in_one, read}
use Rattle.lrp_cutting.proofs.LeavingLaws.{all_gap, gap_found, goes_on, no_gap, no_gap_left}
use Rattle.lrp_cutting.proofs.leaving.+has_gap.Goals as goal

pub returns-then-is_empty : goal.returns-then-is_empty
returns-then-is_empty t c =
    let none : length c.args.cutters.now ≡ 0 = eqb-true (length c.args.cutters.now) 0 (sym c.is_empty.ensures ∙ c.if-is_empty.true) in
    (λ x. all_gap c.args.part.now c.args.cutters.now c.requires.zone none, λ g. refl)

pub meeting-requires : goal.meeting-requires
meeting-requires t c =
    let l : Contains c.in_ok-sides.sides c.side-item.result = subst (λ x. Contains x c.side-item.result) c.as_slice-side-items.ensures (read _ _ _ c.loop-side-test.true c.side-item.is) in
    record { cell = cells_moved c.args.part.now c.side-item.result c.args.cutters.now (c.in_ok-sides.ensures.left.zones c.side-item.result l).1 c.requires.cell }

pub has_gap-requires : goal.has_gap-requires
has_gap-requires t c =
    let l : Contains c.in_ok-sides.sides c.side-item.result = subst (λ x. Contains x c.side-item.result) c.as_slice-side-items.ensures (read _ _ _ c.loop-side-test.true c.side-item.is) in
    let on = goes_on c.args.part.now c.in_ok-sides.ensures.cutter _ c.in_ok-sides.sides c.args.cutters.now c.in_ok-sides.ensures.listed c.in_ok-sides.ensures.left c.side-item.result l c.in_ok-met.met c.in_ok-met.ensures _ c.as_slice.ensures c.requires.cell c.requires.reach in
    let fewer : length c.as_slice.result.now < length c.args.cutters.now = on.0 in
    (omega (arith, c.decreases, fewer), ((c.in_ok-sides.ensures.left.zones c.side-item.result l).0, (on.1, on.2)))

pub returns-then-branch : goal.returns-then-branch
returns-then-branch t c =
    let l : Contains c.in_ok-sides.sides c.side-item.result = subst (λ x. Contains x c.side-item.result) c.as_slice-side-items.ensures (read _ _ _ c.loop-side-test.true c.side-item.is) in
    let g : HasGap c.side-item.result c.in_ok-met.met = subst (λ x. HasGap c.side-item.result x) c.as_slice.ensures (c.in_ok-has_gap.ensures.0 c.if-branch.true) in (
      λ x. gap_found c.args.part.now c.in_ok-sides.ensures.cutter _ c.in_ok-sides.sides c.args.cutters.now c.in_ok-sides.ensures.listed c.in_ok-sides.ensures.left c.side-item.result l c.in_ok-met.met c.in_ok-met.ensures g,
      λ x. refl,
    )

pub loop-side-preserved : goal.loop-side-preserved
loop-side-preserved t c = λ w k g.
    let l : Contains c.in_ok-sides.sides c.side-item.result = subst (λ x. Contains x c.side-item.result) c.as_slice-side-items.ensures (read _ _ _ c.loop-side-test.true c.side-item.is) in
    let more : take (c.loop-side.side-index + 1) c.as_slice-side-items.result.now ≡ take c.loop-side.side-index c.as_slice-side-items.result.now ++ c.side-item.result ∷ [] = front_more _ _ _ c.loop-side-test.true c.side-item.is in
    elim (Contains-append_cases (take c.loop-side.side-index c.as_slice-side-items.result.now) (c.side-item.result ∷ []) w (subst (λ x. Contains x w) more k)) [
      | inl a ↦ c.loop-side.invariant w a g
      | inr a ↦ no_gap c.args.part.now c.in_ok-sides.ensures.cutter _ c.in_ok-sides.sides c.args.cutters.now c.in_ok-sides.ensures.listed c.in_ok-sides.ensures.left c.side-item.result l c.in_ok-met.met c.in_ok-met.ensures
          (λ x. cc (c.in_ok-has_gap.ensures.1 (subst (λ y. HasGap c.side-item.result y) (sym c.as_slice.ensures) x), c.if-branch.false))
          (subst (λ y. HasGap y c.args.cutters.now) (sym (in_one c.side-item.result w a)) g)
    ]

pub returns : goal.returns
returns t c =
    let all : c.loop-side.side-index ≡ length c.as_slice-side-items.result.now = omega (arith, c.loop-side.auto.side-index-end, c.loop-side-test.false) in
    let whole : take c.loop-side.side-index c.as_slice-side-items.result.now ≡ c.in_ok-sides.sides = ap (λ n. take n c.as_slice-side-items.result.now) all ∙ take-length c.as_slice-side-items.result.now ∙ c.as_slice-side-items.ensures in (
      λ x. absurd (cc x),
      λ g. absurd (no_gap_left c.args.part.now c.in_ok-sides.ensures.cutter _ c.in_ok-sides.sides c.args.cutters.now c.in_ok-sides.ensures.listed c.in_ok-sides.ensures.left (λ w k. c.loop-side.invariant w (subst (λ x. Contains x w) (sym whole) k)) g),
    )
