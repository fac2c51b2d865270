-- The step has the period that was looked at.
use Rattle.std.proofs.Common.{SFits, rules, arith, w64}
use Rattle.std.proofs.lemmas.Int.{ints}
use Rattle.lrp_eval.proofs.groups.small_step.Goals as goal

pub returns : goal.returns
returns c =
    let fits : SFits w64 c.at-step.result.now.period = search rules in
    record { at = c.at-step.ensures; small = record { low = omega (arith, ints, fits, c.if-step-lt1.false); high = omega (arith, ints, fits, c.if-step-lt1.false, c.if-step-gt-SMALL_PERIOD.false) } }
