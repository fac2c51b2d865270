use Rattle.lrp_civil.proofs.EveryLemmas.{every_found, no_every_blank, no_every_date, no_every_from, no_every_pace, no_every_time}
use Rattle.lrp_calendar.proofs.PartLemmas.{none_is}
use Rattle.lrp_civil.proofs.values.CivilValue.every.Goals as goal

pub returns-in_err-pace : goal.returns-in_err-pace
returns-in_err-pace c =
    none_is _ _ c.from_residual-in_err-pace.result c.from_residual-in_err-pace.ensures
    (no_every_pace c.args.bytes.now c.in_ok-rest.rest.now c.in_ok-rest.ensures c.in_err-pace.ensures)

pub returns-in_err-rest-2 : goal.returns-in_err-rest-2
returns-in_err-rest-2 c =
    none_is _ _ c.from_residual-in_err-rest-2.result c.from_residual-in_err-rest-2.ensures
    (no_every_from c.args.bytes.now c.in_ok-rest.rest.now c.in_ok-pace.rest.now c.in_ok-pace.pace c.in_ok-rest.ensures c.in_ok-pace.ensures c.in_err-rest-2.ensures)

pub returns-in_err-date : goal.returns-in_err-date
returns-in_err-date c =
    none_is _ _ c.from_residual-in_err-date.result c.from_residual-in_err-date.ensures
    (no_every_date c.args.bytes.now c.in_ok-rest.rest.now c.in_ok-pace.rest.now c.in_ok-pace.pace c.in_ok-rest.ensures c.in_ok-pace.ensures c.in_ok-rest-2.rest.now c.in_ok-rest-2.ensures c.in_err-date.ensures)

pub returns-in_err-rest-3 : goal.returns-in_err-rest-3
returns-in_err-rest-3 c =
    none_is _ _ c.from_residual-in_err-rest-3.result c.from_residual-in_err-rest-3.ensures
    (no_every_blank c.args.bytes.now c.in_ok-rest.rest.now c.in_ok-pace.rest.now c.in_ok-pace.pace c.in_ok-rest.ensures c.in_ok-pace.ensures c.in_ok-rest-2.rest.now c.in_ok-rest-2.ensures c.in_ok-date.rest.now c.in_ok-date.date c.in_ok-date.ensures c.in_err-rest-3.ensures)

pub returns-in_err-time : goal.returns-in_err-time
returns-in_err-time c =
    none_is _ _ c.from_residual-in_err-time.result c.from_residual-in_err-time.ensures
    (no_every_time c.args.bytes.now c.in_ok-rest.rest.now c.in_ok-pace.rest.now c.in_ok-pace.pace c.in_ok-rest.ensures c.in_ok-pace.ensures c.in_ok-rest-2.rest.now c.in_ok-rest-2.ensures c.in_ok-date.rest.now c.in_ok-date.date c.in_ok-date.ensures c.in_ok-rest-3.rest.now c.in_ok-rest-3.ensures c.in_err-time.ensures)

pub returns : goal.returns
returns c = every_found c.args.bytes.now c.in_ok-rest.rest.now c.in_ok-pace.rest.now c.in_ok-pace.pace c.in_ok-rest.ensures c.in_ok-pace.ensures c.in_ok-rest-2.rest.now c.in_ok-rest-2.ensures c.in_ok-date.rest.now c.in_ok-date.date c.in_ok-date.ensures c.in_ok-rest-3.rest.now c.in_ok-time.time c.in_ok-rest-3.ensures c.in_ok-time.ensures
