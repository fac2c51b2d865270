-- The groups that are not left are done.
use Rattle.lrp_spans.proofs.EndSteps.{IsBegun}
use Rattle.lrp_spans.proofs.periods.period_of.Given as goal

abbrev pub invariant-loop-group : goal.invariant-loop-group
invariant-loop-group l = IsBegun l.period l.groups.lists l.group-iterator l.least
