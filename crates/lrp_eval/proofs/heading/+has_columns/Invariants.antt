-- The columns get fewer.
use Rattle.std.proofs.Common.{length}
use Rattle.lrp_eval.proofs.heading.+has_columns.Given as goal

abbrev pub decreases-has_columns : goal.decreases-has_columns
decreases-has_columns l = length l.columns.now
