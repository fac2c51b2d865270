use Rattle.std.proofs.Common.{◌≡◌, true, subst, arith}
use Rattle.lrp_civil.specs.declared.values.CivilValue.TheVariants.{Every}
use Rattle.lrp_civil.specs.CivilValues.{is_civil}
use Rattle.lrp_civil.proofs.PlainSizes.{pace_short}
use Rattle.lrp_civil.proofs.values.CivilValue.len.Goals as goal

pub overflow_add-result : goal.overflow_add-result
overflow_add-result c =
    let civil : is_civil (Every c.in-Every.pace c.in-Every.date c.in-Every.time) ≡ true = subst (λ value. is_civil value ≡ true) c.in-Every.is c.requires in
    let short = pace_short c.in-Every.pace c.in-Every.date c.in-Every.time civil in
    omega (arith, short, c.len.ensures)
