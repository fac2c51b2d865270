use Rattle.std.proofs.Common.{◌++◌}
use Rattle.std.proofs.lemmas.Result.{err_from_is_err_and}
use Rattle.lrp_io.proofs.PieceLemmas.{written_after, written_err, front_before}
use Rattle.lrp_print.proofs.notation.AfterNotation.write.Goals as goal

pub returns-in_err-write_bytes-clause-text : goal.returns-in_err-write_bytes-clause-text
returns-in_err-write_bytes-clause-text g c =
    let after = c.args.self.now in
    let bytes = g.N.Notation.bytes after.notation.now c.args.item.now in
    let p = err_from_is_err_and c.from_residual.result c.from_residual.ensures.1 in
    written_err _ _ (after.separator.now ++ bytes) _ p.0 p.1 (front_before _ _ after.separator.now bytes c.in_err-write_bytes.ensures.text)

pub returns-clause-text : goal.returns-clause-text
returns-clause-text g c =
    let after = c.args.self.now in
    written_after _ _ _ after.separator.now (g.N.Notation.bytes after.notation.now c.args.item.now) _ c.in_ok-write_bytes.ensures.text c.write.ensures.text
