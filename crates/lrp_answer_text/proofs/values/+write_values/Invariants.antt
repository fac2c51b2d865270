use Rattle.std.proofs.Common.{length}
use Rattle.lrp_answer_text.proofs.values.+write_values.Given as goal

-- each call has one column less
abbrev pub decreases-write_values : goal.decreases-write_values
decreases-write_values g l = length l.values.columns.now
