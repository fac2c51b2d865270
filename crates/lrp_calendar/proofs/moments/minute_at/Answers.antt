use Rattle.std.proofs.Common.{rules, ◌≡◌, pos, ◌+ℤ◌, ◌*ℤ◌, FitsSigned, to_z, of_z, w64, arith, ap, ◌∙◌, subst, sym}
use Rattle.jiff_core.proofs.SignedLemmas.{signed_arith}
use Rattle.lrp_calendar.specs.Moments.{IsCivilMinute}
use Rattle.lrp_calendar.proofs.MomentLemmas.{civil_minute, minute_size, word_product, word_sum}
use Rattle.lrp_calendar.proofs.moments.minute_at.Goals as goal

pub overflow_mul-result : goal.overflow_mul-result
overflow_mul-result c =
    let fits : FitsSigned w64 c.day_number.result = search rules in
    let size = minute_size c.day_number.result c.args.time c.day_number.ensures.range c.requires.time in
    rw (word_product c.day_number.result fits size.0 size.1) (omega (arith, signed_arith))

pub overflow_add-result : goal.overflow_add-result
overflow_add-result c =
    let fits : FitsSigned w64 c.day_number.result = search rules in
    let size = minute_size c.day_number.result c.args.time c.day_number.ensures.range c.requires.time in
    rw (word_product c.day_number.result fits size.0 size.1) (omega (arith, signed_arith, c.from.ensures))

is : (c : goal.After-from) → to_z w64 (of_z w64 (to_z w64 (of_z w64 (to_z w64 (of_z w64 c.day_number.result) *ℤ pos 1440)) +ℤ to_z w64 (of_z w64 c.from.result))) ≡ (c.day_number.result *ℤ pos 1440) +ℤ pos c.args.time
is c =
    let fits : FitsSigned w64 c.day_number.result = search rules in
    let size = minute_size c.day_number.result c.args.time c.day_number.ensures.range c.requires.time in
    rw (word_product c.day_number.result fits size.0 size.1) (word_sum (c.day_number.result *ℤ pos 1440) c.from.result c.args.time size.0 size.1 c.from.ensures size.2)

pub returns-clause-value : goal.returns-clause-value
returns-clause-value c = is c ∙ ap (λ day. (day *ℤ pos 1440) +ℤ pos c.args.time) c.day_number.ensures.value

pub returns-clause-range : goal.returns-clause-range
returns-clause-range c = subst IsCivilMinute (sym (is c)) (civil_minute c.day_number.result c.args.time c.day_number.ensures.range c.requires.time)
