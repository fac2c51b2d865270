use Rattle.std.proofs.Common.{◌++◌, codes}
use Rattle.lrp_model.specs.PrintedPlans.{carried_bytes, two_steps}
use Rattle.std.proofs.lemmas.Result.{err_from_is_err_and}
use Rattle.lrp_io.proofs.PieceLemmas.{written_after, written_err, front_before}
use Rattle.lrp_print.proofs.plans.write_join.Goals as goal

pub returns-in_err-write_operands-clause-text : goal.returns-in_err-write_operands-clause-text
returns-in_err-write_operands-clause-text g c =
    let p = err_from_is_err_and c.from_residual.result c.from_residual.ensures.1 in
    written_err _ _ ((two_steps (codes "join ") c.args.left c.args.right) ++ (carried_bytes c.args.tests.now)) _ p.0 p.1
    (front_before _ _ (two_steps (codes "join ") c.args.left c.args.right) (carried_bytes c.args.tests.now) c.in_err-write_operands.ensures.text)

pub returns-clause-text : goal.returns-clause-text
returns-clause-text g c =
    written_after _ _ _ (two_steps (codes "join ") c.args.left c.args.right) (carried_bytes c.args.tests.now) _ c.in_ok-write_operands.ensures.text c.write_carried.ensures.text
