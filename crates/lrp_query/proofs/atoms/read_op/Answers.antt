use Rattle.std.proofs.Common.{◌∙◌, sym}
use Rattle.std.proofs.lemmas.Result.{err_from_is_err_and}
use Rattle.lrp_query.proofs.Shown.{op_goes_on, op_read, op_refused}
use Rattle.lrp_query.proofs.atoms.read_op.Goals as goal

pub returns-in_err-op-clause-value : goal.returns-in_err-op-clause-value
returns-in_err-op-clause-value c =
    let p = err_from_is_err_and c.from_residual.result c.from_residual.ensures.1 in
    rw (p.1, p.2) (op_refused _ _ _ _ _ c.peek.ensures (sym c.op_of.ensures ∙ c.in_err-op.was))

pub advance-requires : goal.advance-requires
advance-requires c = op_goes_on _ _ _ _ _ c.peek.ensures (sym c.op_of.ensures ∙ c.in_ok-op.was)

pub returns-clause-value : goal.returns-clause-value
returns-clause-value c = op_read _ _ _ _ _ c.advance.ensures.0 _ c.peek.ensures (sym c.op_of.ensures ∙ c.in_ok-op.was) c.advance.ensures.1
