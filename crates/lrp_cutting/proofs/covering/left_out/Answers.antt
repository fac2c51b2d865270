-- It is told of one more place.
use Rattle.std.proofs.Common.{◌≡◌, ◌+◌, ◌↔◌, arith, length, subst, sym}
use Rattle.std.specs.Prelude.{IsTrue}
use Rattle.lrp_cutting.specs.Covering.{AreLeftOut, IsCoveredBySome}
use Rattle.lrp_cutting.proofs.CoverLaws.{out_next, out_none}
use Rattle.lrp_cutting.proofs.covering.left_out.Goals as goal

pub loop-place-init : goal.loop-place-init
loop-place-init c = rw c.new-out.ensures.items (out_none c.args.zones.now)

pub loop-place-preserved : goal.loop-place-preserved
loop-place-preserved c =
    subst (AreLeftOut c.args.zones.now (c.loop-place.place + 1)) (sym c.in_ok-push.ensures.items)
    (out_next c.args.zones.now c.loop-place.place c.loop-place.out.items c.loop-place.invariant c.is_covered-covered.result
    (subst (λ o. IsTrue c.is_covered-covered.result ↔ IsCoveredBySome c.args.zones.now o c.loop-place.place) c.deref.ensures.value c.is_covered-covered.ensures))

pub returns : goal.returns
returns c =
    let all : c.loop-place.place ≡ length c.args.zones.now = omega (arith, c.loop-place-test.false, c.loop-place.auto) in
    subst (λ n. AreLeftOut c.args.zones.now n c.loop-place.out.items) all c.loop-place.invariant
