use Rattle.std.proofs.Common.{[], codes, ap, sym, ◌∙◌}
use Rattle.std.proofs.lemmas.Option.{get_or_from_slice_get}
use Rattle.lrp_model.specs.PrintedPages.{hex}
use Rattle.lrp_io.proofs.PieceLemmas.{written_after}
use Rattle.lrp_print.proofs.Lines.{written_as}
use Rattle.lrp_token.proofs.writing.TextsNotation.write.Goals as goal
use Rattle.lrp_model.specs.Tuples.{text_at}

pub returns-clause-text : goal.returns-clause-text
returns-clause-text g c =
    let same = c.as_bytes.ensures.same ∙ sym (get_or_from_slice_get c.args.self.now.domain.now c.args.number.now _ [] c.text.ensures) in
    written_after _ _ _ (codes "x") (hex (text_at c.args.self.now.domain.now c.args.number.now)) _ c.in_ok-write_bytes.ensures.text (written_as _ _ _ _ _ (ap hex same) c.write_hex.ensures.text)
