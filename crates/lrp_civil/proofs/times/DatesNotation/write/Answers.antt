-- As a date where the time has one, and else in decimal.
use Rattle.std.proofs.Common.{true, false, sym, ◌∙◌}
use Rattle.lrp_print.proofs.Lines.{written_as}
use Rattle.lrp_civil.proofs.TimeLemmas.{dated_is}
use Rattle.lrp_civil.proofs.times.DatesNotation.write.Goals as goal

pub returns-then-is_civil_minute-clause-text : goal.returns-then-is_civil_minute-clause-text
returns-then-is_civil_minute-clause-text g c =
    written_as _ _ _ _ _ (dated_is c.args.time.now true (sym c.is_civil_minute.ensures.value ∙ c.if-is_civil_minute.true)) c.write_moment.ensures.text

pub returns-else-is_civil_minute-clause-text : goal.returns-else-is_civil_minute-clause-text
returns-else-is_civil_minute-clause-text g c =
    written_as _ _ _ _ _ (dated_is c.args.time.now false (sym c.is_civil_minute.ensures.value ∙ c.if-is_civil_minute.false)) c.write_integer.ensures.text
