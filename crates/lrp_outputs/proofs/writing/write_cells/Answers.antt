-- The pieces are the line.
use Rattle.std.proofs.Common.{refl, ◌∙◌}
use Rattle.lrp_print.proofs.Lines.{written_as}
use Rattle.lrp_outputs.proofs.LineLemmas.{cells_pieces}
use Rattle.lrp_outputs.proofs.writing.write_cells.Goals as goal

pub returns-clause-text : goal.returns-clause-text
returns-clause-text g c =
    written_as _ _ _ _ c.write_pieces.result
    (cells_pieces c.args.cap c.args.place.now c.args.number c.as_slice.result.now c.as_bytes.result.now c.args.place.now c.as_bytes-2.result.now c.as_slice-2.result.now c.as_slice.ensures (c.as_bytes.ensures.value ∙ c.format.ensures.text) refl (c.as_bytes-2.ensures.value ∙ c.format-2.ensures.text) c.as_slice-2.ensures)
    c.write_pieces.ensures.text
