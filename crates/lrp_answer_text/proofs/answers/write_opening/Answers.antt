use Rattle.std.proofs.Common.{◌++◌, codes}
use Rattle.std.proofs.lemmas.Result.{err_from_is_err_and}
use Rattle.lrp_io.proofs.PieceLemmas.{written_after, written_err, front_after, front_before}
use Rattle.lrp_answer_text.proofs.Rows.{opening}
use Rattle.lrp_answer_text.proofs.answers.write_opening.Goals as goal

pub returns-in_err-write_bytes-clause-text : goal.returns-in_err-write_bytes-clause-text
returns-in_err-write_bytes-clause-text g c =
    let p = err_from_is_err_and c.from_residual.result c.from_residual.ensures.1 in
    written_err _ _ (opening c.args.name.now) _ p.0 p.1 (front_before _ _ (codes "relation ") (c.args.name.now ++ codes "(") c.in_err-write_bytes.ensures.text)

pub returns-in_err-write_bytes-2-clause-text : goal.returns-in_err-write_bytes-2-clause-text
returns-in_err-write_bytes-2-clause-text g c =
    let p = err_from_is_err_and c.from_residual-in_err-write_bytes-2.result c.from_residual-in_err-write_bytes-2.ensures.1 in
    written_err _ _ (opening c.args.name.now) _ p.0 p.1
    (front_after _ _ _ (codes "relation ") (c.args.name.now ++ codes "(") c.in_ok-write_bytes.ensures.text (front_before _ _ c.args.name.now (codes "(") c.in_err-write_bytes-2.ensures.text))

pub returns-clause-text : goal.returns-clause-text
returns-clause-text g c =
    written_after _ _ _ (codes "relation ") (c.args.name.now ++ codes "(") _ c.in_ok-write_bytes.ensures.text
    (written_after _ _ _ c.args.name.now (codes "(") _ c.in_ok-write_bytes-2.ensures.text c.write_bytes-3.ensures.text)
