-- The line of the flaw, by the name of its relation.
use Rattle.std.proofs.Common.{◌∙◌, ap}
use Rattle.lrp_print.proofs.Lines.{written_as}
use Rattle.lrp_lint.specs.Reports.{flaw_line, row_flaw_word}
use Rattle.lrp_lint.proofs.report.RowLinesNotation.write.Goals as goal

pub returns-clause-text : goal.returns-clause-text
returns-clause-text g c =
    written_as _ _ _ _ c.write_row.result
    (ap (λ w. flaw_line w c.name_at-name.result.now c.args.finding.now.row) c.word.ensures ∙ ap (λ n. flaw_line (row_flaw_word c.args.finding.now.flaw) n c.args.finding.now.row) c.name_at-name.ensures)
    c.write_row.ensures.text
