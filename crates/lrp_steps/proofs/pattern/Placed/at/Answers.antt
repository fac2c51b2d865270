-- As many places as the zone has columns are those that were given.
use Rattle.std.proofs.Common.{◌≡◌, ◌<◌, ◌≤◌, length, take, ap, sym, ◌∙◌, arith}
use Rattle.std.proofs.lemmas.List.{ext_get_or, get_or-take, length-take-le}
use Rattle.lrp_zone.specs.Zones.{columns_of}
use Rattle.lrp_steps.proofs.pattern.Placed.at.Goals as goal

pub returns : goal.returns
returns c =
    let count : length c.args.places.now ≡ columns_of c.args.zone.now = c.requires in
    let few : columns_of c.args.zone.now ≤ 8 = c.columns-i-end.ensures.valid.shape.columns in
    let size : length c.loop-i.all ≡ 8 = c.loop-i.invariant.size in
    let front : length (take (columns_of c.args.zone.now) c.loop-i.all) ≡ columns_of c.args.zone.now = length-take-le (columns_of c.args.zone.now) c.loop-i.all (omega (arith, few, size)) in
    ap (λ ps. record { zone = c.args.zone.now; places = ps }) (ext_get_or 0 (take (columns_of c.args.zone.now) c.loop-i.all) c.args.places.now (front ∙ sym count)
    (λ i h. let low : i < columns_of c.args.zone.now = omega (arith, front) in get_or-take (columns_of c.args.zone.now) c.loop-i.all i 0 low ∙ c.loop-i.invariant.same i (omega (arith, low, c.columns-i-end.ensures.value, c.loop-i-test.false))))
