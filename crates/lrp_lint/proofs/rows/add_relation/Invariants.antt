-- The rows so far.
use Rattle.lrp_lint.specs.Listed.{FindsMore}
use Rattle.lrp_lint.proofs.Found.{FoundBefore}
use Rattle.lrp_lint.proofs.rows.add_relation.Given as goal

abbrev pub invariant-loop-row : goal.invariant-loop-row
invariant-loop-row l = FindsMore (FoundBefore l.relation l.held l.row) l.fn.found.items l.found.items
