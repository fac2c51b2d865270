use Rattle.std.proofs.Common.{◌++◌, codes}
use Rattle.std.specs.Fmt.{decimal}
use Rattle.lrp_model.specs.PrintedPlans.{test_bytes}
use Rattle.std.proofs.lemmas.Result.{err_from_is_err_and}
use Rattle.lrp_io.proofs.PieceLemmas.{written_after, written_err, front_after, front_before}
use Rattle.lrp_print.proofs.plans.write_select.Goals as goal

pub returns-in_err-write_bytes-clause-text : goal.returns-in_err-write_bytes-clause-text
returns-in_err-write_bytes-clause-text g c =
    let p = err_from_is_err_and c.from_residual.result c.from_residual.ensures.1 in
    written_err _ _ ((codes "select ") ++ ((decimal c.args.of) ++ ((codes " ") ++ (test_bytes c.args.test.now)))) _ p.0 p.1
    (front_before _ _ (codes "select ") ((decimal c.args.of) ++ ((codes " ") ++ (test_bytes c.args.test.now))) c.in_err-write_bytes.ensures.text)

pub returns-in_err-write_number-clause-text : goal.returns-in_err-write_number-clause-text
returns-in_err-write_number-clause-text g c =
    let p = err_from_is_err_and c.from_residual-in_err-write_number.result c.from_residual-in_err-write_number.ensures.1 in
    written_err _ _ ((codes "select ") ++ ((decimal c.args.of) ++ ((codes " ") ++ (test_bytes c.args.test.now)))) _ p.0 p.1
    (front_after _ _ _ (codes "select ") ((decimal c.args.of) ++ ((codes " ") ++ (test_bytes c.args.test.now))) c.in_ok-write_bytes.ensures.text (front_before _ _ (decimal c.args.of) ((codes " ") ++ (test_bytes c.args.test.now)) c.in_err-write_number.ensures.text))

pub returns-in_err-write_bytes-2-clause-text : goal.returns-in_err-write_bytes-2-clause-text
returns-in_err-write_bytes-2-clause-text g c =
    let p = err_from_is_err_and c.from_residual-in_err-write_bytes-2.result c.from_residual-in_err-write_bytes-2.ensures.1 in
    written_err _ _ ((codes "select ") ++ ((decimal c.args.of) ++ ((codes " ") ++ (test_bytes c.args.test.now)))) _ p.0 p.1
    (front_after _ _ _ (codes "select ") ((decimal c.args.of) ++ ((codes " ") ++ (test_bytes c.args.test.now))) c.in_ok-write_bytes.ensures.text (front_after _ _ _ (decimal c.args.of) ((codes " ") ++ (test_bytes c.args.test.now)) c.in_ok-write_number.ensures.text (front_before _ _ (codes " ") (test_bytes c.args.test.now) c.in_err-write_bytes-2.ensures.text)))

pub returns-clause-text : goal.returns-clause-text
returns-clause-text g c =
    written_after _ _ _ (codes "select ") ((decimal c.args.of) ++ ((codes " ") ++ (test_bytes c.args.test.now))) _ c.in_ok-write_bytes.ensures.text (written_after _ _ _ (decimal c.args.of) ((codes " ") ++ (test_bytes c.args.test.now)) _ c.in_ok-write_number.ensures.text (written_after _ _ _ (codes " ") (test_bytes c.args.test.now) _ c.in_ok-write_bytes-2.ensures.text c.write_test.ensures.text))
