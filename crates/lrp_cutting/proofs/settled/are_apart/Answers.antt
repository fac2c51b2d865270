-- One zone more is far after the one before it.
use Rattle.std.proofs.Common.{◌≡◌, ◌∷◌, refl, sym, subst, arith, to_z, of_z, w64}
use Rattle.std.specs.Prelude.{ℤ, Contains}
use Rattle.std.proofs.lemmas.Int.{ints}
use Rattle.lrp_zone.specs.Zones.{ZoneView}
use Rattle.lrp_store.proofs.Aligning.{head_in}
use Rattle.lrp_cutting.specs.Intervals.{IsOnLine}
use Rattle.lrp_cutting.proofs.SettledLaws.{turn_begins, next_line, turn_goes, turn_ends, turn_room}
use Rattle.lrp_cutting.proofs.settled.are_apart.Goals as goal

pub interval_of-last-requires : goal.interval_of-last-requires
interval_of-last-requires c = (c.requires c.args.first.now (head_in c.args.first.now c.args.rest (c.args.first.now ∷ c.args.rest) refl)).column

pub loop-zone-init : goal.loop-zone-init
loop-zone-init c =
    let w : to_z w64 (of_z w64 c.args.period) ≡ c.args.period = omega (arith, ints, c.ranges.period.sfits) in
    turn_begins (to_z w64 (of_z w64 c.args.period)) c.args.first.now c.args.rest c.into_iter-zone-iterator.result c.interval_of-last.result c.interval_of-last.ensures.interval c.into_iter-zone-iterator.ensures.into_iter_gives
    (subst (λ (k : ℤ). (z : ZoneView) → Contains (c.args.first.now ∷ c.args.rest) z → IsOnLine k z) (sym w) c.requires)

pub interval_of-next-requires : goal.interval_of-next-requires
interval_of-next-requires c = (next_line (to_z w64 (of_z w64 c.args.period)) c.in-Some.zone c.next.new.self c.loop-zone.zone-iterator c.in-Some.ensures.steps c.loop-zone.invariant.lines).column

pub is_apart-requires : goal.is_apart-requires
is_apart-requires c = turn_room (to_z w64 (of_z w64 c.args.period)) c.args.first.now c.args.rest c.loop-zone.last c.loop-zone.zone-iterator (to_z w64 (of_z w64 c.args.period)) c.loop-zone.invariant refl

pub loop-zone-preserved : goal.loop-zone-preserved
loop-zone-preserved c =
    turn_goes (to_z w64 (of_z w64 c.args.period)) c.args.first.now c.args.rest c.loop-zone.last c.interval_of-next.result c.in-Some.zone c.next.new.self c.loop-zone.zone-iterator c.loop-zone.invariant c.in-Some.ensures.steps c.interval_of-next.ensures.interval
    ((c.is_apart.ensures c.loop-zone.invariant.zone.period c.loop-zone.invariant.line.period_is).0 c.if-not-is_apart.false)

pub returns : goal.returns
returns c = λ e. turn_ends (to_z w64 (of_z w64 c.args.period)) c.args.first.now c.args.rest c.loop-zone.last c.loop-zone.zone-iterator c.loop-zone.invariant c.in-None.ensures.steps.0
