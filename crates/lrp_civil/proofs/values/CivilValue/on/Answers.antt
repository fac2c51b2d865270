use Rattle.lrp_calendar.proofs.PartLemmas.{none_is}
use Rattle.lrp_civil.proofs.ValueLemmas.{no_date, no_on_time}
use Rattle.lrp_civil.proofs.values.CivilValue.on.Goals as goal

pub returns-in_err-date : goal.returns-in_err-date
returns-in_err-date c =
    none_is _ _ c.from_residual-in_err-date.result c.from_residual-in_err-date.ensures
    (no_date c.args.bytes.now c.in_ok-rest.rest.now c.in_ok-rest.ensures c.in_err-date.ensures)

pub returns-in_err-time : goal.returns-in_err-time
returns-in_err-time c =
    none_is _ _ c.from_residual-in_err-time.result c.from_residual-in_err-time.ensures
    (no_on_time c.args.bytes.now c.in_ok-rest.rest.now c.in_ok-date.rest.now c.in_ok-rest-2.rest.now c.in_ok-date.date c.in_ok-rest.ensures c.in_ok-date.ensures c.in_ok-rest-2.ensures c.in_err-time.ensures)
