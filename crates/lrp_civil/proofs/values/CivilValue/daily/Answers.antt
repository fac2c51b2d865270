use Rattle.lrp_calendar.proofs.PartLemmas.{none_is}
use Rattle.lrp_civil.proofs.ValueLemmas.{no_daily_time}
use Rattle.lrp_civil.proofs.values.CivilValue.daily.Goals as goal

pub returns-in_err-time : goal.returns-in_err-time
returns-in_err-time c =
    none_is _ _ c.from_residual-in_err-time.result c.from_residual-in_err-time.ensures
    (no_daily_time c.args.bytes.now c.in_ok-rest.rest.now c.in_ok-rest.ensures c.in_err-time.ensures)
