use Rattle.std.proofs.Common.{◌≡◌, ◌+◌, drop}
use Rattle.lrp_model.specs.Faults.{earliest, ninth}
use Rattle.lrp_model.specs.Sorting.{query_standing, query_fault}
use Rattle.lrp_model.specs.declared.faults.QueryKind.TheVariants.{Wide}
use Rattle.lrp_model.specs.Sooner.{sooner}
use Rattle.lrp_sorts.proofs.head.head_width.Given as goal

-- the first fault so far, and of what is left, is that of all
abbrev pub invariant-loop-column : goal.invariant-loop-column
invariant-loop-column l = record {
  same : sooner query_standing l.found (earliest query_standing (ninth (query_fault Wide) l.before.times l.before.texts (drop l.column-index l.columns))) ≡ earliest query_standing (ninth (query_fault Wide) 0 0 l.columns);
  seen : l.before.times + l.before.texts ≡ l.column-index;
}
