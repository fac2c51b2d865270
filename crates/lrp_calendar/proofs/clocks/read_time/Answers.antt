use Rattle.std.proofs.Common.{sym, subst}
use Rattle.std.specs.Str.{IsUtf8}
use Rattle.lrp_calendar.proofs.ReadLemmas.{clock_utf8}
use Rattle.lrp_calendar.proofs.clocks.read_time.Goals as goal

pub returns-in-Err-clause-spells : goal.returns-in-Err-clause-spells
returns-in-Err-clause-spells c = λ time h e. c.in-Err.ensures.cases.0 (subst IsUtf8 (sym e) (clock_utf8 time h))
