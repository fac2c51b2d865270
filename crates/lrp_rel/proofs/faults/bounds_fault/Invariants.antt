-- The first fault is the sooner one of that so far and of that of the bounds left.
use Rattle.std.proofs.Common.{◌≡◌, List, drop}
use Rattle.std.specs.List.{flat_map}
use Rattle.indexmap.specs.IndexSet.{keys}
use Rattle.lrp_model.specs.Faults.{earliest}
use Rattle.lrp_model.specs.DatabaseFaults.{database_standing}
use Rattle.lrp_model.specs.declared.raw.RawColumn.{RawColumn}
use Rattle.lrp_model.specs.Sooner.{sooner}
use Rattle.lrp_rel.specs.Times.{AreTimesOf}
use Rattle.lrp_rel.proofs.FaultWalks.{bound_faults}
use Rattle.lrp_rel.proofs.faults.bounds_fault.Given as goal

abbrev pub invariant-loop-bound : goal.invariant-loop-bound
invariant-loop-bound l =
    (columns : List RawColumn) → AreTimesOf columns (keys l.times)
    → sooner database_standing l.best (earliest database_standing (flat_map (bound_faults columns) (drop l.bound-index l.bounds))) ≡ earliest database_standing (flat_map (bound_faults columns) l.bounds)
