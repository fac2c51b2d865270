-- The pieces are the line.
use Rattle.std.proofs.Common.{◌∙◌, refl}
use Rattle.lrp_print.proofs.Lines.{written_as}
use Rattle.lrp_lint.proofs.Lines.{row_pieces}
use Rattle.lrp_lint.proofs.report.write_row.Goals as goal

pub returns-clause-text : goal.returns-clause-text
returns-clause-text g c =
    written_as _ _ _ _ c.write_pieces.result
    (row_pieces c.args.flaw.now c.args.name.now c.args.row c.as_slice.result.now c.args.flaw.now c.as_slice-2.result.now c.args.name.now c.as_slice-3.result.now c.as_bytes.result.now c.as_slice-4.result.now c.as_slice.ensures refl c.as_slice-2.ensures refl c.as_slice-3.ensures (c.as_bytes.ensures.value ∙ c.format.ensures.text) c.as_slice-4.ensures)
    c.write_pieces.ensures.text
