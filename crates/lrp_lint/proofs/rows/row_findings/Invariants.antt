-- The relations so far.
use Rattle.std.proofs.Common.{[]}
use Rattle.lrp_lint.specs.Listed.{FindsMore}
use Rattle.lrp_lint.proofs.Found.{FoundAmong}
use Rattle.lrp_lint.proofs.rows.row_findings.Given as goal

abbrev pub invariant-loop-i : goal.invariant-loop-i
invariant-loop-i l = FindsMore (FoundAmong l.database l.i) [] l.found.items
