use Rattle.std.proofs.Common.{sym, ◌∙◌}
use Rattle.lrp_calendar.proofs.ReadLemmas.{date_found, no_date_read}
use Rattle.lrp_calendar.proofs.dates.parsed_date.Goals as goal

pub returns-in-Ok : goal.returns-in-Ok
returns-in-Ok c = λ date h e. date_found c.args.text.now c.parse.result c.in-Ok.date c.parse.ensures.value c.in-Ok.is date h e ∙ sym c.numbers.ensures

pub returns-in-Err : goal.returns-in-Err
returns-in-Err c = λ date h e. no_date_read c.args.text.now c.parse.result c.in-Err.field-0 c.parse.ensures.value c.in-Err.is date h e
