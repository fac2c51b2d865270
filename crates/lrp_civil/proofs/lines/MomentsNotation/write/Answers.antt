use Rattle.std.proofs.Common.{ap, sym}
use Rattle.lrp_print.proofs.Lines.{written_as}
use Rattle.lrp_civil.specs.CivilLines.{civil_time_bytes}
use Rattle.lrp_civil.proofs.lines.MomentsNotation.write.Goals as goal

pub returns-then-self-clause-text : goal.returns-then-self-clause-text
returns-then-self-clause-text g c =
    written_as _ _ _ _ _ (ap (λ json. civil_time_bytes json c.args.time.now) (sym c.if-self.true)) c.write_between_quotes.ensures.text

pub returns-else-self-clause-text : goal.returns-else-self-clause-text
returns-else-self-clause-text g c =
    written_as _ _ _ _ _ (ap (λ json. civil_time_bytes json c.args.time.now) (sym c.if-self.false)) c.write_moment.ensures.text
