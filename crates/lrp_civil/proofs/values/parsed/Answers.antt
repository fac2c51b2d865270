use Rattle.lrp_civil.proofs.PaceLemmas.{parsed_err, parsed_ok}
use Rattle.lrp_civil.proofs.values.parsed.Goals as goal

pub returns-in-Ok : goal.returns-in-Ok
returns-in-Ok c = parsed_ok c.args.digits.now c.parse.result c.in-Ok.number c.parse.ensures.value.0 c.requires.digits c.in-Ok.is

pub returns-in-Err : goal.returns-in-Err
returns-in-Err c = parsed_err c.args.digits.now c.parse.result c.in-Err.field-0 c.parse.ensures.value.0 c.requires.digits c.requires.some c.in-Err.is
