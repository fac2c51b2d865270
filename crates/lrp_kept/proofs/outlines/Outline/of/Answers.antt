use Rattle.std.proofs.Common.{◌≡◌, ◌<◌, ◌≤◌, length, get_or, refl, subst, arith}
use Rattle.std.proofs.lemmas.List.{take_all}
use Rattle.lrp_kept.proofs.Outlined.{AreSpansOf, no_zones, one_zone_more, outlined}
use Rattle.lrp_kept.proofs.outlines.Outline.of.Goals as goal

pub loop-placed-init : goal.loop-placed-init
loop-placed-init c = no_zones c.args.times 8 _ refl refl refl refl

pub loop-placed-preserved : goal.loop-placed-preserved
loop-placed-preserved c =
    let low : c.loop-placed.placed-index < length c.args.pattern.now.zones = subst (λ xs. c.loop-placed.placed-index < length xs) c.as_slice-placed-items.ensures c.loop-placed-test.true in
    let is : c.placed-item.result ≡ get_or c.args.pattern.now.zones c.loop-placed.placed-index c.placed-item.result = subst (λ xs. c.placed-item.result ≡ get_or xs c.loop-placed.placed-index c.placed-item.result) c.as_slice-placed-items.ensures c.placed-item.is in
    one_zone_more c.args.pattern.now.zones c.loop-placed.placed-index c.placed-item.result c.args.times c.loop-placed.all c.narrow.new.times low is c.loop-placed.invariant c.narrow.ensures

pub returns : goal.returns
returns c =
    let past = subst (λ xs. length xs ≤ c.loop-placed.placed-index) c.as_slice-placed-items.ensures (omega (arith, c.loop-placed-test.false)) in
    outlined c.args.pattern.now c.args.times c.args.texts _ (subst (λ zs. AreSpansOf zs c.args.times c.loop-placed.all) (take_all c.loop-placed.placed-index c.args.pattern.now.zones past) c.loop-placed.invariant) c.first_known.ensures
