-- Values that no tuple is below are the least tuple once they are one.
use Rattle.std.proofs.Common.{subst, take}
use Rattle.lrp_zone.specs.Zones.{IsMember}
use Rattle.lrp_zone.proofs.Raised.{least_found}
use Rattle.lrp_zone.proofs.raising.least_in.Goals as goal

pub returns-then-contains-clause-some : goal.returns-then-contains-clause-some
returns-then-contains-clause-some c =
    least_found c.args.zone.now c.args.low.now c.all_raised-values.result c.args.high.now (c.all_raised-values.ensures c.args.low.now c.loop-turn.invariant) (c.are_bounded.ensures.inside c.if-not-are_bounded.false)
    (subst (λ n. IsMember c.args.zone.now (take n c.all_raised-values.result)) c.columns-columns.ensures.value (c.contains.ensures.0 c.if-contains.true))
