-- The columns so far are counted.
use Rattle.lrp_periods.specs.Windows.{AreWays}
use Rattle.lrp_periods.proofs.bounding.cells_of_zone.Given as goal

abbrev pub invariant-loop-turn : goal.invariant-loop-turn
invariant-loop-turn l = AreWays l.zone l.ways l.turn l.count
