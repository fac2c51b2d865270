use Rattle.std.proofs.Common.{sym, subst}
use Rattle.std.specs.Str.{IsUtf8}
use Rattle.lrp_calendar.proofs.ReadLemmas.{date_utf8}
use Rattle.lrp_calendar.proofs.dates.read_date.Goals as goal

pub returns-in-Err : goal.returns-in-Err
returns-in-Err c = λ date h e. c.in-Err.ensures.cases.0 (subst IsUtf8 (sym e) (date_utf8 date h))
