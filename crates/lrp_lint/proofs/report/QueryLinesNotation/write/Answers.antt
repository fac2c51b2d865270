-- The pieces are the line.
use Rattle.std.proofs.Common.{◌∙◌, refl}
use Rattle.lrp_print.proofs.Lines.{written_as}
use Rattle.lrp_lint.proofs.Lines.{place_pieces}
use Rattle.lrp_lint.proofs.report.QueryLinesNotation.write.Goals as goal

pub returns-clause-text : goal.returns-clause-text
returns-clause-text g c =
    written_as _ _ _ _ c.write_pieces.result
    (place_pieces c.args.finding.now c.as_slice.result.now c.word.result.now c.as_slice-2.result.now c.as_bytes.result.now c.as_slice-3.result.now c.as_bytes-2.result.now c.as_slice-4.result.now c.as_slice.ensures c.word.ensures c.as_slice-2.ensures (c.as_bytes.ensures.value ∙ c.format.ensures.text) c.as_slice-3.ensures (c.as_bytes-2.ensures.value ∙ c.format-2.ensures.text) c.as_slice-4.ensures)
    c.write_pieces.ensures.text
