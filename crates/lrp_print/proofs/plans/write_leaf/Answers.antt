use Rattle.std.proofs.Common.{◌++◌}
use Rattle.lrp_model.specs.PrintedPlans.{test_bytes, leaf_word}
use Rattle.std.proofs.lemmas.Result.{err_from_is_err_and}
use Rattle.lrp_io.proofs.PieceLemmas.{written_after, written_err, front_before}
use Rattle.lrp_print.proofs.Lines.{ok_as, front_as}
use Rattle.lrp_print.proofs.plans.write_leaf.Goals as goal

pub returns-in_err-write_bytes-clause-text : goal.returns-in_err-write_bytes-clause-text
returns-in_err-write_bytes-clause-text g c =
    let p = err_from_is_err_and c.from_residual.result c.from_residual.ensures.1 in
    written_err _ _ ((leaf_word c.args.test.now) ++ (test_bytes c.args.test.now)) _ p.0 p.1
    (front_before _ _ (leaf_word c.args.test.now) (test_bytes c.args.test.now) (front_as _ _ _ _ c.leaf_word.ensures c.in_err-write_bytes.ensures.text))

pub returns-clause-text : goal.returns-clause-text
returns-clause-text g c =
    written_after _ _ _ (leaf_word c.args.test.now) (test_bytes c.args.test.now) _ (ok_as _ _ _ _ c.leaf_word.ensures c.in_ok-write_bytes.ensures.text) c.write_test.ensures.text
