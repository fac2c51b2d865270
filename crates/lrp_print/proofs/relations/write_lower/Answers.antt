use Rattle.std.proofs.Common.{◌++◌, codes, neg_ℤ}
use Rattle.std.specs.Fmt.{signed_decimal}
use Rattle.std.proofs.lemmas.Result.{err_from_is_err_and}
use Rattle.lrp_model.specs.Printed.{time_name}
use Rattle.lrp_io.proofs.PieceLemmas.{written_after, written_err, front_after, front_before}
use Rattle.lrp_print.proofs.Lines.{ok_as, front_as}
use Rattle.lrp_print.proofs.relations.write_lower.Goals as goal

pub returns-in_err-write_bytes-clause-text : goal.returns-in_err-write_bytes-clause-text
returns-in_err-write_bytes-clause-text g c =
    let p = err_from_is_err_and c.from_residual.result c.from_residual.ensures.1 in
    written_err _ _ (time_name c.args.columns.now c.args.bound.now.right ++ (codes " >= " ++ signed_decimal (neg_ℤ c.args.bound.now.most))) _ p.0 p.1 (front_before _ _ (time_name c.args.columns.now c.args.bound.now.right) (codes " >= " ++ (signed_decimal (neg_ℤ c.args.bound.now.most))) (front_as _ _ _ _ c.name_of_time.ensures c.in_err-write_bytes.ensures.text))

pub returns-in_err-write_bytes-2-clause-text : goal.returns-in_err-write_bytes-2-clause-text
returns-in_err-write_bytes-2-clause-text g c =
    let p = err_from_is_err_and c.from_residual-in_err-write_bytes-2.result c.from_residual-in_err-write_bytes-2.ensures.1 in
    written_err _ _ (time_name c.args.columns.now c.args.bound.now.right ++ (codes " >= " ++ signed_decimal (neg_ℤ c.args.bound.now.most))) _ p.0 p.1 (front_after _ _ _ (time_name c.args.columns.now c.args.bound.now.right) (codes " >= " ++ (signed_decimal (neg_ℤ c.args.bound.now.most))) (ok_as _ _ _ _ c.name_of_time.ensures c.in_ok-write_bytes.ensures.text) (front_before _ _ (codes " >= ") (signed_decimal (neg_ℤ c.args.bound.now.most)) c.in_err-write_bytes-2.ensures.text))

pub returns-clause-text : goal.returns-clause-text
returns-clause-text g c = written_after _ _ _ (time_name c.args.columns.now c.args.bound.now.right) (codes " >= " ++ (signed_decimal (neg_ℤ c.args.bound.now.most))) _ (ok_as _ _ _ _ c.name_of_time.ensures c.in_ok-write_bytes.ensures.text) (written_after _ _ _ (codes " >= ") (signed_decimal (neg_ℤ c.args.bound.now.most)) _ c.in_ok-write_bytes-2.ensures.text (c.write_negated.ensures.text))
