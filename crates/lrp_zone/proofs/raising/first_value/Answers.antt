-- The number is the first one, or the low end.
use Rattle.std.proofs.Common.{◌≡◌, ◌≤◌, ◌^◌, ◌∙◌, SFits, arith, of_z, pos, subst, sym, to_z, w64}
use Rattle.std.specs.Prelude.{neg_ℤ, ◌≤ℤ◌, ◌<ℤ◌}
use Rattle.std.proofs.lemmas.Int.{ints, to_z-of_z}
use Rattle.lrp_zone.proofs.Raised.{first_found, low_found, rest_is}
use Rattle.lrp_zone.proofs.raising.first_value.Goals as goal

pub returns-in-Some : goal.returns-in-Some
returns-in-Some c =
    let least : pos 0 ≤ℤ c.args.residue = c.requires.residue.low in
    let most : c.args.residue <ℤ pos c.args.period = c.requires.residue.high in
    let low : neg_ℤ (pos (2 ^ 62)) ≤ℤ c.args.low = c.requires.low in
    let period : c.args.period ≤ 2 ^ 62 = c.requires.period_high in
    let fits : SFits w64 c.in-Some.first = subst (SFits w64) (sym c.in-Some.ensures.1) c.in-Some.ensures.0 in
    let same : to_z w64 (of_z w64 c.in-Some.first) ≡ c.in-Some.first = to_z-of_z w64 c.in-Some.first fits in
    first_found c.args.period c.args.residue c.args.low (pos c.remainder-over.result) _ c.requires.period_low
    (rest_is c.args.residue c.args.low c.args.period (pos c.remainder-over.result) _ c.remainder-over.ensures.value (omega (arith, ints))) (same ∙ c.in-Some.ensures.1 ∙ omega (arith, ints))

pub returns-in-None : goal.returns-in-None
returns-in-None c = low_found c.args.period c.args.residue c.args.low _ (omega (arith, ints))
