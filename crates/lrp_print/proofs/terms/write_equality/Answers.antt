use Rattle.std.proofs.Common.{◌++◌, codes}
use Rattle.lrp_model.specs.PrintedPlans.{data_bytes}
use Rattle.std.proofs.lemmas.Result.{err_from_is_err_and}
use Rattle.lrp_io.proofs.PieceLemmas.{written_after, written_err, front_after, front_before}
use Rattle.lrp_print.proofs.terms.write_equality.Goals as goal

pub returns-in_err-write_bytes-clause-text : goal.returns-in_err-write_bytes-clause-text
returns-in_err-write_bytes-clause-text g c =
    let p = err_from_is_err_and c.from_residual-in_err-write_bytes.result c.from_residual-in_err-write_bytes.ensures.1 in
    written_err _ _ ((data_bytes c.args.left.now) ++ ((codes " = ") ++ (data_bytes c.args.right.now))) _ p.0 p.1
    (front_after _ _ _ (data_bytes c.args.left.now) ((codes " = ") ++ (data_bytes c.args.right.now)) c.in_ok-write_data.ensures.text (front_before _ _ (codes " = ") (data_bytes c.args.right.now) c.in_err-write_bytes.ensures.text))

pub returns-clause-text : goal.returns-clause-text
returns-clause-text g c =
    written_after _ _ _ (data_bytes c.args.left.now) ((codes " = ") ++ (data_bytes c.args.right.now)) _ c.in_ok-write_data.ensures.text (written_after _ _ _ (codes " = ") (data_bytes c.args.right.now) _ c.in_ok-write_bytes.ensures.text c.write_data-2.ensures.text)
