-- Those of the query, in order.
use Rattle.std.proofs.Common.{subst}
use Rattle.lrp_lint.specs.Listed.{AreEachOnce, query_order}
use Rattle.lrp_lint.proofs.findings.listed_findings.Goals as goal

pub returns : goal.returns
returns c = subst (λ all. AreEachOnce query_order all c.query_in_order.result) c.in_ok-found.ensures c.query_in_order.ensures
