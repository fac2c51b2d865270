-- The first fault is the sooner one of that so far and of that of the columns left.
use Rattle.std.proofs.Common.{◌≡◌, drop, map, []}
use Rattle.indexmap.specs.IndexSet.{keys}
use Rattle.lrp_model.specs.Faults.{earliest, repeated}
use Rattle.lrp_model.specs.DatabaseFaults.{database_standing, database_fault, named_at}
use Rattle.lrp_model.specs.declared.faults.DbKind.TheVariants.{Name}
use Rattle.lrp_model.specs.Sooner.{sooner}
use Rattle.lrp_rel.proofs.faults.repeated_column.Given as goal

abbrev pub invariant-loop-column : goal.invariant-loop-column
invariant-loop-column l =
    sooner database_standing l.best (earliest database_standing (repeated (database_fault Name) (keys l.names) (map named_at (drop l.column-index l.columns))))
    ≡ earliest database_standing (repeated (database_fault Name) [] (map named_at l.columns))
