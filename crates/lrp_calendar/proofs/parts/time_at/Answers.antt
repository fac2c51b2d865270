use Rattle.std.proofs.Common.{refl}
use Rattle.lrp_calendar.specs.Moments.{clock_bytes, is_time_of_day}
use Rattle.lrp_calendar.proofs.PartLemmas.{none_is, none_short, none_front, front_read}
use Rattle.lrp_calendar.proofs.parts.time_at.Goals as goal

pub returns-in_err-text : goal.returns-in_err-text
returns-in_err-text c = none_is _ _ c.from_residual.result c.from_residual.ensures (none_short is_time_of_day clock_bytes 5 c.args.bytes.now (λ time h. refl) c.in_err-text.ensures.cases)

pub returns-in_err-time : goal.returns-in_err-time
returns-in_err-time c =
    none_is _ _ c.from_residual-in_err-time.result c.from_residual-in_err-time.ensures
    (none_front is_time_of_day clock_bytes 5 c.args.bytes.now c.in_ok-text.text.now c.in_ok-text.rest.now (λ time h. refl) c.in_ok-text.ensures.cases c.in_err-time.ensures)

pub returns : goal.returns
returns c = front_read is_time_of_day clock_bytes 5 c.args.bytes.now c.in_ok-text.text.now c.in_ok-text.rest.now c.in_ok-time.time c.in_ok-text.ensures.cases c.in_ok-time.ensures.0 c.in_ok-time.ensures.1
