-- The meet of both.
use Rattle.lrp_cutting.proofs.standing.common.Goals as goal

pub returns-in_err-common-clause-none : goal.returns-in_err-common-clause-none
returns-in_err-common-clause-none c = rw c.from_residual.ensures c.in_err-common.ensures.none
