use Rattle.std.proofs.Common.{ap, refl, arith}
use Rattle.lrp_slots.proofs.Linked.{with_room}
use Rattle.lrp_slots.proofs.slots.Slots.reserve.Goals as goal

pub invariant_of-self : goal.invariant_of-self
invariant_of-self g c = with_room _ _ _ _ c.in_err-reserve.ensures.rest_kept c.in_err-reserve.ensures.capacity refl c.self.invariant

pub returns-in_err-reserve-clause-succeeds : goal.returns-in_err-reserve-clause-succeeds
returns-in_err-reserve-clause-succeeds g c =
    λ enough.
    let was = ap (λ s. s.spare) c.self.view_is in
    let fails = c.in_err-reserve.ensures.succeeds (omega (arith, was, c.self.invariant.fits)) in
    cc

pub invariant_of-self-2 : goal.invariant_of-self-2
invariant_of-self-2 g c = with_room _ _ _ _ c.in_ok-reserve.ensures.rest_kept c.in_ok-reserve.ensures.capacity refl c.self.invariant
