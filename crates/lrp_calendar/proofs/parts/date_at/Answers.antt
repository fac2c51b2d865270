use Rattle.std.proofs.Common.{refl}
use Rattle.lrp_calendar.specs.Dates.{is_date}
use Rattle.lrp_calendar.specs.Moments.{date_bytes}
use Rattle.lrp_calendar.proofs.PartLemmas.{none_is, none_short, none_front, front_read}
use Rattle.lrp_calendar.proofs.parts.date_at.Goals as goal

pub returns-in_err-text : goal.returns-in_err-text
returns-in_err-text c = none_is _ _ c.from_residual.result c.from_residual.ensures (none_short is_date date_bytes 10 c.args.bytes.now (λ date h. refl) c.in_err-text.ensures.cases)

pub returns-in_err-date : goal.returns-in_err-date
returns-in_err-date c =
    none_is _ _ c.from_residual-in_err-date.result c.from_residual-in_err-date.ensures
    (none_front is_date date_bytes 10 c.args.bytes.now c.in_ok-text.text.now c.in_ok-text.rest.now (λ date h. refl) c.in_ok-text.ensures.cases c.in_err-date.ensures)

pub returns : goal.returns
returns c = front_read is_date date_bytes 10 c.args.bytes.now c.in_ok-text.text.now c.in_ok-text.rest.now c.in_ok-date.date c.in_ok-text.ensures.cases c.in_ok-date.ensures.0 c.in_ok-date.ensures.1
