-- A key that was remembered takes a place.
use Rattle.std.proofs.Common.{◌≡◌, ◌<◌, ◌⊎◌, length, map, arith, inr, subst}
use Rattle.std.specs.Prelude.{Contains}
use Rattle.std.proofs.lemmas.List.Elements.{All-set}
use Rattle.lrp_slots.specs.Narrow.{wide}
use Rattle.lrp_slots.proofs.Places.{IsOneOf, all_new, remembered, set_some, wide_held}
use Rattle.lrp_slots.proofs.remembered.Remembered.grow.Goals as goal

pub loop-i-init : goal.loop-i-init
loop-i-init c = (omega (arith, c.in_ok-places.ensures.size, c.max-size.ensures), all_new (map wide c.self.inside.places.items) c.args.key.now c.in_ok-places.places.items c.in_ok-places.ensures.each)

pub loop-i-preserved : goal.loop-i-preserved
loop-i-preserved c =
    let lt : c.loop-i.i < length c.self.inside.places.items = omega (arith, c.loop-i-test.true, c.len-i-end.ensures) in (
      set_some c.loop-i.places.items c.place_of-place.result c.index.result.now c.loop-i.invariant.0,
      All-set (IsOneOf (map wide c.self.inside.places.items) (wide c.args.key.now)) c.loop-i.places.items c.place_of-place.result c.index.result.now
          (inr (wide_held c.self.inside.places.items c.loop-i.i c.index.result.now c.index.result.now lt c.index.ensures)) c.loop-i.invariant.1,
    )

pub returns : goal.returns
returns c = λ other held.
    subst (λ cells. (other ≡ wide c.args.key.now) ⊎ Contains cells other) c.self.view_is
    (remembered (map wide c.self.inside.places.items) (wide c.args.key.now) c.loop-i.places.items c.loop-i.invariant.1 other held)
