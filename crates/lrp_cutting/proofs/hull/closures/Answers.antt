-- One more zone is closed.
use Rattle.std.proofs.Common.{◌≡◌, length, take, subst, arith}
use Rattle.std.proofs.Math.Seq.{take-length}
use Rattle.lrp_cutting.specs.Hulls.{AreClosures}
use Rattle.lrp_cutting.proofs.Lists.{front_more}
use Rattle.lrp_cutting.proofs.WidestLaws.{closures_none, closures_more}
use Rattle.lrp_cutting.proofs.hull.closures.Goals as goal

pub loop-zone-init : goal.loop-zone-init
loop-zone-init c = rw c.new-made.ensures.items closures_none

pub loop-zone-preserved : goal.loop-zone-preserved
loop-zone-preserved c = rw (front_more _ _ _ c.loop-zone-test.true c.zone-item.is, c.in_ok-push.ensures.items)
    (closures_more _ _ c.zone-item.result c.closed.result c.loop-zone.invariant c.columns.ensures.valid (record { closed = c.closed.ensures.closed; integers = c.closed.ensures.integers }))

pub returns : goal.returns
returns c =
    let all : c.loop-zone.zone-index ≡ length c.args.zones.now = omega (arith, c.loop-zone.auto.zone-index-end, c.loop-zone-test.false) in
    subst (λ l. AreClosures l c.loop-zone.made.items) (take-length c.args.zones.now) (subst (λ n. AreClosures (take n c.args.zones.now) c.loop-zone.made.items) all c.loop-zone.invariant)
