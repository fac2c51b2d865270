-- The bounds so far.
use Rattle.lrp_lint.specs.Ties.{IsGrouped}
use Rattle.lrp_lint.proofs.ties.groups_of.Given as goal

abbrev pub invariant-loop-bound : goal.invariant-loop-bound
invariant-loop-bound l = IsGrouped l.bounds l.bound-index l.groups
