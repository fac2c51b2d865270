use Rattle.std.proofs.Common.{sym, ◌∙◌}
use Rattle.lrp_calendar.proofs.ReadLemmas.{time_found, no_time_read}
use Rattle.lrp_calendar.proofs.clocks.parsed_time.Goals as goal

pub returns-in-Ok-clause-spells : goal.returns-in-Ok-clause-spells
returns-in-Ok-clause-spells c = λ time h e. time_found c.args.text.now c.parse.result c.in-Ok.time c.parse.ensures.value c.in-Ok.is time h e ∙ sym c.minutes.ensures.value

pub returns-in-Err-clause-spells : goal.returns-in-Err-clause-spells
returns-in-Err-clause-spells c = λ time h e. no_time_read c.args.text.now c.parse.result c.in-Err.field-0 c.parse.ensures.value c.in-Err.is time h e
