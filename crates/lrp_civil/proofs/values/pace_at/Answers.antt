use Rattle.lrp_calendar.proofs.PartLemmas.{none_is}
use Rattle.lrp_civil.proofs.PaceLemmas.{no_blank, no_number, no_pace, no_unit, pace_found}
use Rattle.lrp_civil.proofs.values.pace_at.Goals as goal

pub returns-in_err-number : goal.returns-in_err-number
returns-in_err-number c = none_is _ _ c.from_residual.result c.from_residual.ensures (no_number c.args.bytes.now c.in_err-number.ensures)

pub returns-in_err-rest : goal.returns-in_err-rest
returns-in_err-rest c =
    none_is _ _ c.from_residual-in_err-rest.result c.from_residual-in_err-rest.ensures
    (no_blank c.args.bytes.now c.in_ok-number.rest.now c.in_ok-number.number c.in_ok-number.ensures c.in_err-rest.ensures)

pub returns-in_err-unit : goal.returns-in_err-unit
returns-in_err-unit c =
    none_is _ _ c.from_residual-in_err-unit.result c.from_residual-in_err-unit.ensures
    (no_unit c.args.bytes.now c.in_ok-number.rest.now c.in_ok-rest.rest.now c.in_ok-number.number c.in_ok-number.ensures c.in_ok-rest.ensures c.in_err-unit.ensures)

pub returns-in_err-of : goal.returns-in_err-of
returns-in_err-of c =
    none_is _ _ c.from_residual-in_err-of.result c.from_residual-in_err-of.ensures
    (no_pace c.args.bytes.now c.in_ok-number.rest.now c.in_ok-rest.rest.now c.in_ok-unit.rest.now c.in_ok-number.number c.in_ok-unit.unit c.in_ok-number.ensures c.in_ok-rest.ensures c.in_ok-unit.ensures.whole c.in_err-of.ensures)

pub returns : goal.returns
returns c =
    pace_found c.args.bytes.now c.in_ok-number.rest.now c.in_ok-rest.rest.now c.in_ok-unit.rest.now c.in_ok-number.number c.in_ok-unit.unit _ c.in_ok-number.ensures c.in_ok-rest.ensures c.in_ok-unit.ensures.whole c.in_ok-of.ensures.0 c.in_ok-of.ensures.1
