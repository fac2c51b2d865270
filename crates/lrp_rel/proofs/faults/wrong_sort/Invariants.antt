-- The first fault is the sooner one of that so far and of that of the values left.
use Rattle.std.proofs.Common.{◌≡◌, drop}
use Rattle.lrp_model.specs.Faults.{earliest}
use Rattle.lrp_model.specs.DatabaseFaults.{database_standing, wrong_sorts}
use Rattle.lrp_model.specs.Sooner.{sooner}
use Rattle.lrp_rel.proofs.faults.wrong_sort.Given as goal

abbrev pub invariant-loop-i : goal.invariant-loop-i
invariant-loop-i l =
    sooner database_standing l.best (earliest database_standing (wrong_sorts (drop l.i l.columns) (drop l.i l.values))) ≡ earliest database_standing (wrong_sorts l.columns l.values)
