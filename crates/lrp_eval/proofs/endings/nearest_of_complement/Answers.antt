-- The part of the complement before `head`.
use Rattle.std.proofs.Common.{◌≤◌, arith, refl, to_z, of_z, w64}
use Rattle.std.proofs.lemmas.Int.{ints}
use Rattle.std.specs.Prelude.{nat_abs}
use Rattle.lrp_periods.specs.Nearest.{IsNearestLeft}
use Rattle.lrp_eval.specs.Ending.{IsNearestHeld}
use Rattle.lrp_eval.proofs.GroupLaws.{also_ok}
use Rattle.lrp_eval.proofs.GroupSteps.{complement_asks, operand_high, operand_low}
use Rattle.lrp_eval.proofs.NearestLaws.{near_held}
use Rattle.lrp_eval.proofs.endings.nearest_of_complement.Goals as goal

pub parts_of-requires-clause-low : goal.parts_of-requires-clause-low
parts_of-requires-clause-low c = operand_low c.requires.group c.requires.made c.requires.step _ c.in-Complement.is _ (0, omega arith, refl)

pub parts_of-requires-clause-high : goal.parts_of-requires-clause-high
parts_of-requires-clause-high c = operand_high c.requires.group c.requires.made c.requires.step _ c.in-Complement.is _ (0, omega arith, refl)

pub nearest_left-requires-clause-operand : goal.nearest_left-requires-clause-operand
nearest_left-requires-clause-operand c = complement_asks c.requires.group c.requires.made c.requires.step c.in_ok-parts.ensures c.in-Complement.is

pub nearest_left-requires-clause-line : goal.nearest_left-requires-clause-line
nearest_left-requires-clause-line c = c.can_be_sifted.ensures c.if-not-can_be_sifted.false

pub returns : goal.returns
returns c =
    let line = c.can_be_sifted.ensures c.if-not-can_be_sifted.false in
    let within : nat_abs (to_z w64 (of_z w64 c.args.step.now.period)) ≤ c.args.setting.now.cap = omega (arith, ints, c.if-step-from.false, c.from.ensures) in
    also_ok (IsNearestLeft c.args.setting.now.domain.now (to_z w64 (of_z w64 c.args.step.now.period)) c.in_ok-parts.parts.now) (IsNearestHeld c.args.setting.now.cap c.args.group.now) c.nearest_left.result
    (λ table is. near_held c.requires.group c.requires.made c.requires.step c.in_ok-parts.ensures c.in-Complement.is c.requires.place line.times line.texts
    (c.have_columns.ensures.times c.if-not-have_columns.false) (c.have_columns.ensures.texts c.if-not-have_columns.false) within table is) c.nearest_left.ensures
