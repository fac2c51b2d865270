-- Strictly sorted lists of the same elements are one list.
use Rattle.lrp_lint.proofs.Unique.{one_findings}
use Rattle.lrp_lint.proofs.laws.findings_are_one.Goals as goal

pub returns : goal.returns
returns c = one_findings
