use Rattle.lrp_calendar.proofs.PartLemmas.{none_is}
use Rattle.lrp_calendar.proofs.MinuteLemmas.{no_date, no_letter, no_time}
use Rattle.lrp_calendar.proofs.minutes.spelled_by.Goals as goal

pub returns-in_err-date-clause-spelled : goal.returns-in_err-date-clause-spelled
returns-in_err-date-clause-spelled c = none_is _ _ c.from_residual.result c.from_residual.ensures (no_date c.args.word.now c.in_err-date.ensures)

pub returns-in_err-rest-clause-spelled : goal.returns-in_err-rest-clause-spelled
returns-in_err-rest-clause-spelled c =
    none_is _ _ c.from_residual-in_err-rest.result c.from_residual-in_err-rest.ensures
    (no_letter c.args.word.now c.in_ok-date.rest.now c.in_ok-date.date c.in_ok-date.ensures c.in_err-rest.ensures)

pub returns-in_err-time-clause-spelled : goal.returns-in_err-time-clause-spelled
returns-in_err-time-clause-spelled c =
    none_is _ _ c.from_residual-in_err-time.result c.from_residual-in_err-time.ensures
    (no_time c.args.word.now c.in_ok-date.rest.now c.in_ok-rest.rest.now c.in_ok-date.date c.in_ok-date.ensures c.in_ok-rest.ensures c.in_err-time.ensures)
