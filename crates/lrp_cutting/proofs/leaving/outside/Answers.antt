-- One more bound is taken away.
use Rattle.std.proofs.Common.{◌≡◌, ◌+◌, ◌++◌, ◌∷◌, [], length, max, get_or, take, arith, ap, sym, subst, ◌∙◌}
use Rattle.std.specs.Prelude.{pos}
use Rattle.std.proofs.lemmas.List.{take_more}
use Rattle.std.proofs.Math.Seq.{take-length}
use Rattle.lrp_model.specs.declared.relations.Bound.{Bound}
use Rattle.lrp_zone.specs.Zones.{reach_of}
use Rattle.lrp_cutting.specs.Halves.{IsHalf, HasNoHalf}
use Rattle.lrp_cutting.specs.Leaving.{AreLeftOf, AreBoundsOf}
use Rattle.lrp_cutting.proofs.HalfLaws.{stored_moved}
use Rattle.lrp_cutting.proofs.LeavingLaws.{AtBound, IsLeaving, at_bound, leaving_none, leaving_same, leaving_more, leaving_early, leaving_late}
use Rattle.lrp_cutting.proofs.leaving.outside.Goals as goal

-- what the list has after its end
abbrev nought : Bound
nought = record { left = 0; right = 0; most = pos 0 }

pub loop-bound-init : goal.loop-bound-init
loop-bound-init c = rw c.new-sides.ensures (leaving_none c.args.zone.now c.args.cutter.now _ c.requires.zone (omega arith))

pub turned-requires-clause-small : goal.turned-requires-clause-small
turned-requires-clause-small c =
    (at_bound c.args.zone.now c.args.cutter.now c.deref-bound-items.result.now _ c.loop-bound.bound-index c.deref-bound-items.ensures.value c.in_ok-bounds.ensures.bounds c.requires.cell c.in_ok-bounds.ensures.valid c.requires.reach c.loop-bound-test.true).both.inner.small

pub half-requires : goal.half-requires
half-requires c =
    rw c.turned.ensures (stored_moved c.args.zone.now c.loop-bound.rest _ c.loop-bound.invariant.cell
    (at_bound c.args.zone.now c.args.cutter.now c.deref-bound-items.result.now _ c.loop-bound.bound-index c.deref-bound-items.ensures.value c.in_ok-bounds.ensures.bounds c.requires.cell c.in_ok-bounds.ensures.valid c.requires.reach c.loop-bound-test.true).both.outer)

pub loop-bound-preserved-in_default : goal.loop-bound-preserved-in_default
loop-bound-preserved-in_default c =
    let at : AtBound c.args.zone.now c.args.cutter.now (get_or c.deref-bound-items.result.now c.loop-bound.bound-index nought) =
    at_bound c.args.zone.now c.args.cutter.now c.deref-bound-items.result.now _ c.loop-bound.bound-index c.deref-bound-items.ensures.value c.in_ok-bounds.ensures.bounds c.requires.cell c.in_ok-bounds.ensures.valid c.requires.reach c.loop-bound-test.true in
    subst (λ l. IsLeaving c.args.zone.now c.args.cutter.now l (max (reach_of c.args.zone.now) (reach_of c.args.cutter.now + c.args.zone.now.period)) c.loop-bound.sides c.loop-bound.rest) (sym (take_more c.deref-bound-items.result.now c.loop-bound.bound-index nought c.loop-bound-test.true))
    (leaving_same c.args.zone.now c.args.cutter.now _ _ c.loop-bound.sides c.loop-bound.rest c.requires.zone c.requires.cell c.in_ok-bounds.ensures.valid c.loop-bound.invariant _ at.is at.both
    (subst (λ x. HasNoHalf c.loop-bound.rest x) c.turned.ensures c.in_default.ensures.none))

pub half-requires-in-loop-bound : goal.half-requires-in-loop-bound
half-requires-in-loop-bound c =
    stored_moved c.args.zone.now c.loop-bound.rest _ c.loop-bound.invariant.cell
    (at_bound c.args.zone.now c.args.cutter.now c.deref-bound-items.result.now _ c.loop-bound.bound-index c.deref-bound-items.ensures.value c.in_ok-bounds.ensures.bounds c.requires.cell c.in_ok-bounds.ensures.valid c.requires.reach c.loop-bound-test.true).both.inner

pub returns-in-None : goal.returns-in-None
returns-in-None c =
    let at : AtBound c.args.zone.now c.args.cutter.now (get_or c.deref-bound-items.result.now c.loop-bound.bound-index nought) =
    at_bound c.args.zone.now c.args.cutter.now c.deref-bound-items.result.now _ c.loop-bound.bound-index c.deref-bound-items.ensures.value c.in_ok-bounds.ensures.bounds c.requires.cell c.in_ok-bounds.ensures.valid c.requires.reach c.loop-bound-test.true in
    subst (λ l. AreLeftOf c.args.zone.now (c.args.zone.now ∷ []) (c.args.cutter.now ∷ []) (max (reach_of c.args.zone.now) (reach_of c.args.cutter.now + c.args.zone.now.period)) l) (sym c.in_ok-push.ensures.ok)
    (leaving_early c.args.zone.now c.args.cutter.now _ _ c.loop-bound.sides c.loop-bound.rest c.requires.zone c.requires.cell c.in_ok-bounds.ensures.valid c.loop-bound.invariant _ at.is at.both c.in-Some.side
    (subst (λ x. IsHalf c.loop-bound.rest x c.in-Some.side) c.turned.ensures c.in-Some.ensures.some) c.in-None.ensures.none)

pub loop-bound-preserved : goal.loop-bound-preserved
loop-bound-preserved c =
    let at : AtBound c.args.zone.now c.args.cutter.now (get_or c.deref-bound-items.result.now c.loop-bound.bound-index nought) =
    at_bound c.args.zone.now c.args.cutter.now c.deref-bound-items.result.now _ c.loop-bound.bound-index c.deref-bound-items.ensures.value c.in_ok-bounds.ensures.bounds c.requires.cell c.in_ok-bounds.ensures.valid c.requires.reach c.loop-bound-test.true in
    subst (λ l. IsLeaving c.args.zone.now c.args.cutter.now l (max (reach_of c.args.zone.now) (reach_of c.args.cutter.now + c.args.zone.now.period)) c.push.new.self c.in-Some-half.inner) (sym (take_more c.deref-bound-items.result.now c.loop-bound.bound-index nought c.loop-bound-test.true))
    (subst (λ l. IsLeaving c.args.zone.now c.args.cutter.now (take c.loop-bound.bound-index c.deref-bound-items.result.now ++ get_or c.deref-bound-items.result.now c.loop-bound.bound-index nought ∷ []) (max (reach_of c.args.zone.now) (reach_of c.args.cutter.now + c.args.zone.now.period)) l c.in-Some-half.inner) (sym c.in_ok-push.ensures.ok)
    (leaving_more c.args.zone.now c.args.cutter.now _ _ c.loop-bound.sides c.loop-bound.rest c.requires.zone c.requires.cell c.in_ok-bounds.ensures.valid c.loop-bound.invariant _ at.is at.both c.in-Some.side
    (subst (λ x. IsHalf c.loop-bound.rest x c.in-Some.side) c.turned.ensures c.in-Some.ensures.some) c.in-Some-half.inner c.in-Some-half.ensures.some))

pub returns : goal.returns
returns c =
    let all : c.loop-bound.bound-index ≡ length c.deref-bound-items.result.now = omega (arith, c.loop-bound.auto.bound-index-end, c.loop-bound-test.false) in
    let whole : take c.loop-bound.bound-index c.deref-bound-items.result.now ≡ c.deref-bound-items.result.now = ap (λ n. take n c.deref-bound-items.result.now) all ∙ take-length c.deref-bound-items.result.now in
    leaving_late c.args.zone.now c.args.cutter.now c.deref-bound-items.result.now _ c.loop-bound.sides c.loop-bound.rest c.requires.cell
    (subst (λ l. AreBoundsOf c.args.cutter.now l) (sym c.deref-bound-items.ensures.value) c.in_ok-bounds.ensures.bounds)
    (subst (λ l. IsLeaving c.args.zone.now c.args.cutter.now l (max (reach_of c.args.zone.now) (reach_of c.args.cutter.now + c.args.zone.now.period)) c.loop-bound.sides c.loop-bound.rest) whole c.loop-bound.invariant)
