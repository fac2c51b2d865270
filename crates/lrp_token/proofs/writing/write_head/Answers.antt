use Rattle.std.proofs.Common.{◌++◌, codes}
use Rattle.std.proofs.lemmas.Result.{err_from_is_err_and}
use Rattle.lrp_model.specs.PrintedPages.{hex}
use Rattle.lrp_io.proofs.PieceLemmas.{written_after, written_err, front_after, front_before}
use Rattle.lrp_token.proofs.writing.write_head.Goals as goal

pub returns-in_err-write_hex-clause-text : goal.returns-in_err-write_hex-clause-text
returns-in_err-write_hex-clause-text g c =
    let p = err_from_is_err_and c.from_residual-in_err-write_hex.result c.from_residual-in_err-write_hex.ensures.1 in
    written_err _ _ (codes "T2/" ++ (hex c.args.digest.now ++ codes "/")) _ p.0 p.1
    (front_after _ _ _ (codes "T2/") (hex c.args.digest.now ++ codes "/") c.in_ok-write_bytes.ensures.text (front_before _ _ (hex c.args.digest.now) (codes "/") c.in_err-write_hex.ensures.text))

pub returns-clause-text : goal.returns-clause-text
returns-clause-text g c =
    written_after _ _ _ (codes "T2/") (hex c.args.digest.now ++ codes "/") _ c.in_ok-write_bytes.ensures.text (written_after _ _ _ (hex c.args.digest.now) (codes "/") _ c.in_ok-write_hex.ensures.text c.write_bytes-2.ensures.text)
