-- As a date, or as a number.
use Rattle.std.proofs.Common.{sym, ap, subst}
use Rattle.lrp_print.proofs.Lines.{written_as}
use Rattle.lrp_outputs.specs.RangeLines.{IsDatedWhere, end_bytes}
use Rattle.lrp_outputs.proofs.ranges.EndsNotation.write.Goals as goal

pub write_civil_time-requires : goal.write_civil_time-requires
write_civil_time-requires g c = subst (λ civil. IsDatedWhere civil c.args.end.now) c.if-self.true c.requires

pub returns-then-self-clause-text : goal.returns-then-self-clause-text
returns-then-self-clause-text g c =
    written_as _ _ _ _ _ (ap (λ civil. end_bytes civil c.args.self.now.json c.args.end.now) (sym c.if-self.true)) c.write_civil_time.ensures.text

pub returns-else-self-clause-text : goal.returns-else-self-clause-text
returns-else-self-clause-text g c =
    written_as _ _ _ _ _ (ap (λ civil. end_bytes civil c.args.self.now.json c.args.end.now) (sym c.if-self.false)) c.write_integer.ensures.text
