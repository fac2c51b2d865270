use Rattle.lrp_calendar.proofs.PartLemmas.{none_is}
use Rattle.lrp_civil.proofs.ValueLemmas.{no_day, no_weekly_time}
use Rattle.lrp_civil.proofs.values.CivilValue.weekly.Goals as goal

pub returns-in_err-day : goal.returns-in_err-day
returns-in_err-day c =
    none_is _ _ c.from_residual-in_err-day.result c.from_residual-in_err-day.ensures
    (no_day c.args.bytes.now c.in_ok-rest.rest.now c.in_ok-rest.ensures c.in_err-day.ensures)

pub returns-in_err-time : goal.returns-in_err-time
returns-in_err-time c =
    none_is _ _ c.from_residual-in_err-time.result c.from_residual-in_err-time.ensures
    (no_weekly_time c.args.bytes.now c.in_ok-rest.rest.now c.in_ok-day.rest.now c.in_ok-rest-2.rest.now c.in_ok-day.day c.in_ok-rest.ensures c.in_ok-day.ensures c.in_ok-rest-2.ensures c.in_err-time.ensures)
