-- The number a period above the greatest one of the zone.
use Rattle.std.proofs.Common.{◌≡◌, ◌+◌, ◌<◌, ◌≤◌, ◌^◌, arith, ap, length, pos}
use Rattle.std.specs.Prelude.{nat_abs, neg_ℤ, ◌+ℤ◌, ◌<ℤ◌}
use Rattle.std.proofs.lemmas.Int.{ints}
use Rattle.lrp_zone.specs.Zones.{columns_of}
use Rattle.lrp_cutting.proofs.ApartLaws.{between_is}
use Rattle.lrp_cutting.proofs.WindowLaws.{bound_small}
use Rattle.lrp_cutting.proofs.turns.have_value_between.Goals as goal

pub overflow_sub-result-in-Some-Some : goal.overflow_sub-result-in-Some-Some
overflow_sub-result-in-Some-Some c =
    let columns : columns_of c.args.next.now ≡ columns_of c.args.zone.now = ap length c.requires.cell.residues in
    let small : nat_abs c.in-Some-Some.below ≤ 2 ^ 62 = bound_small c.args.next.now 0 1 c.in-Some-Some.below c.columns.ensures.valid (omega arith) (omega arith) c.in-Some-Some.ensures' in
    let period : c.args.zone.now.period ≤ 2 ^ 62 = c.columns-columns.ensures.valid.shape.period_high in
    let same : c.period.result ≡ pos c.args.zone.now.period = c.period.ensures in
    omega (arith, ints, small)

pub returns-in-Some-Some : goal.returns-in-Some-Some
returns-in-Some-Some c = λ t.
    let columns : columns_of c.args.next.now ≡ columns_of c.args.zone.now = ap length c.requires.cell.residues in
    let small : nat_abs c.in-Some-Some.below ≤ 2 ^ 62 = bound_small c.args.next.now 0 1 c.in-Some-Some.below c.columns.ensures.valid (omega arith) (omega arith) c.in-Some-Some.ensures' in
    let low : nat_abs c.in-Some-Some.most ≤ 2 ^ 62 = bound_small c.args.zone.now 1 0 c.in-Some-Some.most c.columns-columns.ensures.valid (omega arith) (omega arith) c.in-Some-Some.ensures in
    let period : c.args.zone.now.period ≤ 2 ^ 62 = c.columns-columns.ensures.valid.shape.period_high in
    let same : c.period.result ≡ pos c.args.zone.now.period = c.period.ensures in
    let gap : (c.in-Some-Some.most +ℤ pos c.args.zone.now.period) <ℤ neg_ℤ c.in-Some-Some.below = omega (arith, ints, small, low) in (
      c.in-Some-Some.most +ℤ pos c.args.zone.now.period,
      between_is c.args.zone.now c.args.next.now c.in-Some-Some.most c.in-Some-Some.below c.columns-columns.ensures.valid c.requires.columns (omega arith) c.in-Some-Some.ensures c.in-Some-Some.ensures' gap,
    )
