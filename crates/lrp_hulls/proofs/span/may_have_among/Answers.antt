-- The way to the residues is too long on either side.
use Rattle.std.proofs.Common.{◌≡◌, ◌<◌, arith, rules, subst, to_z, of_z}
use Rattle.std.specs.Prelude.{pos, ◌-ℤ◌, ◌<ℤ◌}
use Rattle.std.specs.Int.{int_rem_euclid, w64}
use Rattle.std.proofs.lemmas.Int.{ints}
use Rattle.lrp_hulls.proofs.Spanned.{none_among}
use Rattle.lrp_hulls.proofs.span.may_have_among.Goals as goal

pub returns : goal.returns
returns c = λ t x h r.
    let e : to_z w64 (of_z w64 c.args.first) ≡ c.args.first = omega (arith, ints) in
    let far : c.args.window.now.width < c.way_from-up.result = search rules in
    let short : (c.args.last -ℤ c.args.first) <ℤ pos c.way_from-way.result = grind (arith, ints) in
    none_among c.args.window.now c.remainder-at.result c.way_from-up.result c.way_from-way.result c.args.first c.args.last x (subst (λ y. pos c.remainder-at.result ≡ int_rem_euclid y (pos c.args.window.now.step)) e c.remainder-at.ensures.value) c.way_from-up.ensures.below c.way_from-up.ensures.reached far c.way_from-way.ensures.below c.way_from-way.ensures.reached short h r
