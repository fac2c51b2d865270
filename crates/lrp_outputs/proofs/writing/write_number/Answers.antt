-- The pieces are the line.
use Rattle.std.proofs.Common.{◌∙◌}
use Rattle.lrp_print.proofs.Lines.{written_as}
use Rattle.lrp_outputs.proofs.LineLemmas.{number_pieces}
use Rattle.lrp_outputs.proofs.writing.write_number.Goals as goal

pub returns-clause-text : goal.returns-clause-text
returns-clause-text g c =
    written_as _ _ _ _ c.write_pieces.result (number_pieces c.args.number c.as_bytes.result.now c.as_slice.result.now (c.as_bytes.ensures.value ∙ c.format.ensures.text) c.as_slice.ensures) c.write_pieces.ensures.text
