-- Each call has one binder less.
use Rattle.std.proofs.Common.{length}
use Rattle.lrp_lint.proofs.queries.+sort_of.Given as goal

abbrev pub decreases-sort_of : goal.decreases-sort_of
decreases-sort_of l = length l.binders.now
