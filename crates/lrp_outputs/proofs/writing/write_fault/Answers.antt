-- The pieces are the line.
use Rattle.std.proofs.Common.{◌∙◌, refl}
use Rattle.lrp_print.proofs.Lines.{written_as}
use Rattle.lrp_outputs.proofs.LineLemmas.{fault_pieces}
use Rattle.lrp_outputs.proofs.writing.write_fault.Goals as goal

pub returns-clause-text : goal.returns-clause-text
returns-clause-text g c =
    written_as _ _ _ _ c.write_pieces.result
    (fault_pieces c.args.whose.now c.args.kind.now c.args.place c.args.whose.now c.as_bytes.result.now c.as_slice.result.now c.as_bytes-2.result.now c.as_slice-2.result.now c.as_bytes-3.result.now c.as_slice-3.result.now refl c.as_bytes.ensures.value c.as_slice.ensures (c.as_bytes-2.ensures.value ∙ c.format.ensures.text) c.as_slice-2.ensures (c.as_bytes-3.ensures.value ∙ c.format-2.ensures.text) c.as_slice-3.ensures)
    c.write_pieces.ensures.text
