-- An odd place is that of a number above zero, an even one that of zero or of a number below it.
use Rattle.std.proofs.Common.{◌≡◌, ◌+◌, ◌-◌, ◌*◌, ◌/◌, ◌<◌, ◌≤◌, refl, arith}
use Rattle.lrp_periods.proofs.NearestLaws.{ranked_above, ranked_below}
use Rattle.lrp_periods.proofs.nearest.residue_of_rank.Goals as goal

pub returns-then-place-eq1 : goal.returns-then-place-eq1
returns-then-place-eq1 c =
    let some : 0 < (c.args.place + 1) / 2 = omega (arith, c.if-place-eq1.true) in
    let odd : c.args.place ≡ 2 * ((c.args.place + 1) / 2) - 1 = omega (arith, c.if-place-eq1.true) in
    ranked_above c.args.own c.args.place ((c.args.place + 1) / 2) _ c.requires.low some odd refl

pub returns-else-place-eq1 : goal.returns-else-place-eq1
returns-else-place-eq1 c =
    let within : (c.args.place + 1) / 2 ≤ c.args.own = omega (arith, c.requires.low, c.requires.place) in
    let even : c.args.place ≡ 2 * ((c.args.place + 1) / 2) = omega (arith, c.if-place-eq1.false) in
    ranked_below c.args.own c.args.place ((c.args.place + 1) / 2) _ c.requires.low within even refl
