-- The windows so far are looked at.
use Rattle.lrp_periods.specs.Windows.{IsWaysLeft}
use Rattle.lrp_periods.proofs.bounding.ways_left.Given as goal

abbrev pub invariant-loop-turn : goal.invariant-loop-turn
invariant-loop-turn l = IsWaysLeft l.zone l.ways l.column l.least
