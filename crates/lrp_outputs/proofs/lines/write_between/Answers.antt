-- The token, and what stands around it.
use Rattle.std.proofs.Common.{◌++◌}
use Rattle.std.proofs.lemmas.Result.{err_from_is_err_and}
use Rattle.lrp_io.proofs.PieceLemmas.{front_before, front_after, written_after, written_err}
use Rattle.lrp_model.specs.PrintedPages.{token_of}
use Rattle.lrp_outputs.specs.Spots.{answer_tuple}
use Rattle.lrp_outputs.proofs.lines.write_between.Goals as goal

pub returns-in_err-write_bytes-clause-text : goal.returns-in_err-write_bytes-clause-text
returns-in_err-write_bytes-clause-text g c =
    let token = token_of c.args.page.now.files (answer_tuple c.args.page.now.answer c.args.last.now) in
    let p = err_from_is_err_and c.from_residual.result c.from_residual.ensures.1 in
    written_err _ _ (c.args.before.now ++ (token ++ c.args.after.now)) _ p.0 p.1 (front_before _ _ c.args.before.now (token ++ c.args.after.now) c.in_err-write_bytes.ensures.text)

pub returns-in_err-write_last-clause-text : goal.returns-in_err-write_last-clause-text
returns-in_err-write_last-clause-text g c =
    let token = token_of c.args.page.now.files (answer_tuple c.args.page.now.answer c.args.last.now) in
    let p = err_from_is_err_and c.from_residual-in_err-write_last.result c.from_residual-in_err-write_last.ensures.1 in
    written_err _ _ (c.args.before.now ++ (token ++ c.args.after.now)) _ p.0 p.1 (front_after _ _ _ c.args.before.now (token ++ c.args.after.now) c.in_ok-write_bytes.ensures.text (front_before _ _ token c.args.after.now c.in_err-write_last.ensures.text))

pub returns-clause-text : goal.returns-clause-text
returns-clause-text g c =
    let token = token_of c.args.page.now.files (answer_tuple c.args.page.now.answer c.args.last.now) in
    written_after _ _ _ c.args.before.now (token ++ c.args.after.now) _ c.in_ok-write_bytes.ensures.text (written_after _ _ _ token c.args.after.now _ c.in_ok-write_last.ensures.text c.write_bytes-2.ensures.text)
