-- No tuple from the low ends on is below the values.
use Rattle.lrp_zone.specs.Raising.{AreLowest}
use Rattle.lrp_zone.proofs.raising.least_in.Given as goal

abbrev pub invariant-loop-turn : goal.invariant-loop-turn
invariant-loop-turn l = AreLowest l.zone l.low l.values
