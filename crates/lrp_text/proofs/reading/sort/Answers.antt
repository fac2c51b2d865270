use Rattle.std.proofs.lemmas.Result.{err_from_is_err_and}
use Rattle.lrp_text.proofs.Looking.{sort_read, sort_refused}
use Rattle.lrp_text.proofs.reading.sort.Goals as goal

pub returns-in_err-sort-clause-value : goal.returns-in_err-sort-clause-value
returns-in_err-sort-clause-value c =
    let p = err_from_is_err_and c.from_residual.result c.from_residual.ensures.1 in
    rw (p.1, p.2) (sort_refused _ _ _ _ _ c.peek-next.ensures c.in_err-sort.ensures)

pub returns-clause-value : goal.returns-clause-value
returns-clause-value c = sort_read _ _ _ _ _ c.advance.ensures.0 _ c.peek-next.ensures c.in_ok-sort.ensures c.advance.ensures.1
