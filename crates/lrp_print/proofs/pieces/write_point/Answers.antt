use Rattle.std.proofs.Common.{◌++◌, codes}
use Rattle.std.specs.Fmt.{signed_decimal}
use Rattle.std.specs.Int.{int_rem_euclid}
use Rattle.std.proofs.lemmas.Result.{err_from_is_err_and}
use Rattle.lrp_io.proofs.PieceLemmas.{written_after, written_err, front_after, front_before}
use Rattle.lrp_print.proofs.pieces.write_point.Goals as goal

pub returns-in_err-write_bytes-clause-text : goal.returns-in_err-write_bytes-clause-text
returns-in_err-write_bytes-clause-text g c =
    let p = err_from_is_err_and c.from_residual-in_err-write_bytes.result c.from_residual-in_err-write_bytes.ensures.1 in
    written_err _ _ ((signed_decimal (int_rem_euclid c.args.point.now.offset c.args.point.now.period)) ++ ((codes "+") ++ ((signed_decimal c.args.point.now.period) ++ (codes "n")))) _ p.0 p.1
    (front_after _ _ _ (signed_decimal (int_rem_euclid c.args.point.now.offset c.args.point.now.period)) ((codes "+") ++ ((signed_decimal c.args.point.now.period) ++ (codes "n"))) c.in_ok-write_residue.ensures.text (front_before _ _ (codes "+") ((signed_decimal c.args.point.now.period) ++ (codes "n")) c.in_err-write_bytes.ensures.text))

pub returns-in_err-write_period-clause-text : goal.returns-in_err-write_period-clause-text
returns-in_err-write_period-clause-text g c =
    let p = err_from_is_err_and c.from_residual-in_err-write_period.result c.from_residual-in_err-write_period.ensures.1 in
    written_err _ _ ((signed_decimal (int_rem_euclid c.args.point.now.offset c.args.point.now.period)) ++ ((codes "+") ++ ((signed_decimal c.args.point.now.period) ++ (codes "n")))) _ p.0 p.1
    (front_after _ _ _ (signed_decimal (int_rem_euclid c.args.point.now.offset c.args.point.now.period)) ((codes "+") ++ ((signed_decimal c.args.point.now.period) ++ (codes "n"))) c.in_ok-write_residue.ensures.text (front_after _ _ _ (codes "+") ((signed_decimal c.args.point.now.period) ++ (codes "n")) c.in_ok-write_bytes.ensures.text (front_before _ _ (signed_decimal c.args.point.now.period) (codes "n") c.in_err-write_period.ensures.text)))

pub returns-clause-text : goal.returns-clause-text
returns-clause-text g c =
    written_after _ _ _ (signed_decimal (int_rem_euclid c.args.point.now.offset c.args.point.now.period)) ((codes "+") ++ ((signed_decimal c.args.point.now.period) ++ (codes "n"))) _ c.in_ok-write_residue.ensures.text (written_after _ _ _ (codes "+") ((signed_decimal c.args.point.now.period) ++ (codes "n")) _ c.in_ok-write_bytes.ensures.text (written_after _ _ _ (signed_decimal c.args.point.now.period) (codes "n") _ c.in_ok-write_period.ensures.text c.write_bytes-2.ensures.text))
