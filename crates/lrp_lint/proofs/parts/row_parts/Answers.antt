-- The points and the bounds are the system of the row.
use Rattle.std.proofs.Common.{subst, sym}
use Rattle.lrp_systems.specs.Sole.{IsWholePart}
use Rattle.lrp_lint.specs.Contents.{HasNoneBounded, IsBoundZone, IsSystemOf}
use Rattle.lrp_lint.proofs.Holding.{none_bounded, system_is}
use Rattle.lrp_lint.proofs.parts.row_parts.Goals as goal

pub returns-in_ok-push-in-Some : goal.returns-in_ok-push-in-Some
returns-in_ok-push-in-Some c =
    let row = c.args.row.now in
    let zone = c.in-Some.zone in
    let bound : IsBoundZone row.bounds c.args.times zone = subst (λ n. IsBoundZone row.bounds n zone) c.from.ensures (subst (λ bs. IsBoundZone bs c.from.result zone) c.as_slice.ensures c.in-Some.ensures.some) in
    subst (IsSystemOf row c.args.times) (sym c.in_ok-push-in-Some.ensures.items)
    (system_is row c.args.times c.requires c.in_ok-parts.parts.items c.in_ok-parts.ensures zone bound c.in_order.result c.in_order.ensures.zone zone.period (subst (λ n. IsWholePart zone.period n c.in_order.result) bound.count c.in_order.ensures.whole))

pub returns-in-None : goal.returns-in-None
returns-in-None c =
    let row = c.args.row.now in
    none_bounded row c.args.times c.requires (subst (λ n. HasNoneBounded row.bounds n) c.from.ensures (subst (λ bs. HasNoneBounded bs c.from.result) c.as_slice.ensures c.in-None.ensures.none))
