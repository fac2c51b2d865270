-- The line of its tuple, by how times are shown.
use Rattle.std.proofs.Common.{sym, ap}
use Rattle.lrp_answer_text.specs.Lines.{is_json}
use Rattle.lrp_print.proofs.Lines.{written_as}
use Rattle.lrp_outputs.specs.Spots.{answer_tuple}
use Rattle.lrp_outputs.specs.PageLines.{line_as}
use Rattle.lrp_outputs.proofs.PageLemmas.{own_dates}
use Rattle.lrp_outputs.proofs.lines.write_spot.Goals as goal

pub write_civil_line-requires-clause-times : goal.write_civil_line-requires-clause-times
write_civil_line-requires-clause-times g c = own_dates c.args.page.now.civil c.args.page.now.answer c.args.spot.now c.if-page.true c.requires.dates

pub returns-then-page-clause-text : goal.returns-then-page-clause-text
returns-then-page-clause-text g c =
    let page = c.args.page.now in
    written_as _ _ _ _ _ (ap (λ civil. line_as civil (is_json page.form) (answer_tuple page.answer c.args.spot.now)) (sym c.if-page.true)) c.write_civil_line.ensures.text

pub returns-else-page-clause-text : goal.returns-else-page-clause-text
returns-else-page-clause-text g c =
    let page = c.args.page.now in
    written_as _ _ _ _ _ (ap (λ civil. line_as civil (is_json page.form) (answer_tuple page.answer c.args.spot.now)) (sym c.if-page.false)) c.write_line.ensures.text
