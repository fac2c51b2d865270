-- The first fault is the sooner one of that so far and of that of the columns left.
use Rattle.std.proofs.Common.{◌≡◌, ◌+◌, drop}
use Rattle.lrp_model.specs.Faults.{earliest, ninth}
use Rattle.lrp_model.specs.DatabaseFaults.{database_standing, database_fault}
use Rattle.lrp_model.specs.declared.faults.DbKind.TheVariants.{Wide}
use Rattle.lrp_model.specs.Sooner.{sooner}
use Rattle.lrp_rel.proofs.faults.ninth_column.Given as goal

abbrev pub invariant-loop-column : goal.invariant-loop-column
invariant-loop-column l = record {
  found : sooner database_standing l.best (earliest database_standing (ninth (database_fault Wide) l.counts.times l.counts.texts (drop l.column-index l.columns))) ≡ earliest database_standing (ninth (database_fault Wide) 0 0 l.columns);
  size : l.counts.times + l.counts.texts ≡ l.column-index;
}
