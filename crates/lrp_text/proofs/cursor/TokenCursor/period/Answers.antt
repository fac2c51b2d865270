use Rattle.std.proofs.Common.{◌∙◌, sym}
use Rattle.std.proofs.lemmas.Result.{err_from_is_err_and}
use Rattle.lrp_text.proofs.Looking.{period_read, period_refused}
use Rattle.lrp_text.proofs.cursor.TokenCursor.period.Goals as goal

pub returns-in_err-period-clause-value : goal.returns-in_err-period-clause-value
returns-in_err-period-clause-value c =
    let p = err_from_is_err_and c.from_residual.result c.from_residual.ensures.1 in
    rw (p.1, p.2) (period_refused _ _ _ _ _ c.peek.ensures (sym c.period.ensures.value ∙ c.in_err-period.was))

pub returns-clause-value : goal.returns-clause-value
returns-clause-value c = period_read _ _ _ _ _ c.advance.ensures.0 _ c.peek.ensures (sym c.period.ensures.value ∙ c.in_ok-period.was) c.advance.ensures.1
