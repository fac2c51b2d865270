-- With dates, or with numbers.
use Rattle.std.proofs.Common.{sym, ap}
use Rattle.lrp_print.proofs.Lines.{written_as}
use Rattle.lrp_outputs.specs.First.{least_line}
use Rattle.lrp_outputs.specs.Spots.{answer_tuple}
use Rattle.lrp_outputs.proofs.witness.write_least.Goals as goal

pub returns-then-witness-clause-text : goal.returns-then-witness-clause-text
returns-then-witness-clause-text g c =
    let w = c.args.witness.now in
    written_as _ _ _ _ _ (ap (λ dates. least_line dates (answer_tuple w.answer c.args.least.now)) (sym c.if-witness.true)) c.write_dated_line.ensures.text

pub returns-else-witness-clause-text : goal.returns-else-witness-clause-text
returns-else-witness-clause-text g c =
    let w = c.args.witness.now in
    written_as _ _ _ _ _ (ap (λ dates. least_line dates (answer_tuple w.answer c.args.least.now)) (sym c.if-witness.false)) c.write_line.ensures.text
