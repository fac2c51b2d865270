-- The longest period so far is not zero.
use Rattle.std.proofs.Common.{◌<◌}
use Rattle.lrp_eval.proofs.worth.longest_period.Given as goal

abbrev pub invariant-loop-value : goal.invariant-loop-value
invariant-loop-value l = 0 < l.longest
