-- Those of the rows, and those of the query.
use Rattle.lrp_lint.proofs.findings.lint.Goals as goal

pub returns-clause-findings : goal.returns-clause-findings
returns-clause-findings c = record { rows = c.in_ok-rows.ensures; query = c.in_ok-query.ensures }
