-- The zone of the bound is met with the zone.
use Rattle.lrp_cutting.proofs.HalfLaws.{half_of, none_common, none_meets_one, one_stored}
use Rattle.lrp_cutting.proofs.half.half.Goals as goal

pub bounded-requires : goal.bounded-requires
bounded-requires c = one_stored c.args.zone.now c.args.bound c.requires

pub returns-in_err-side-clause-none : goal.returns-in_err-side-clause-none
returns-in_err-side-clause-none c = rw c.from_residual.ensures (none_meets_one c.args.zone.now c.args.bound c.in_err-side.ensures.none)

pub returns-in_err-half-clause-none : goal.returns-in_err-half-clause-none
returns-in_err-half-clause-none c = rw c.from_residual-in_err-half.ensures (none_common c.args.zone.now c.args.bound c.in_ok-side.side c.in_ok-side.ensures.some c.in_err-half.ensures.none)

pub returns-clause-some : goal.returns-clause-some
returns-clause-some c = half_of c.args.zone.now c.args.bound c.in_ok-side.side c.in_ok-side.ensures.some c.in_ok-half.half c.in_ok-half.ensures.some
