use Rattle.std.proofs.Common.{◌≡◌, [], reverse, take}
use Rattle.lrp_model.specs.Texts.{Identifier}
use Rattle.lrp_model.specs.Faults.{earliest}
use Rattle.lrp_model.specs.Sorting.{query_standing, binder_sort, head_faults}
use Rattle.lrp_sorts.specs.Scopes.{kept_at}
use Rattle.lrp_sorts.proofs.head.open_long.Given as goal

-- the columns so far
abbrev pub invariant-loop-column : goal.invariant-loop-column
invariant-loop-column l = record {
  fault : l.found ≡ earliest query_standing (head_faults l.catalog [] (take l.column-index l.columns));
  sorts : (n : Identifier) → kept_at l.sorts n ≡ binder_sort (reverse (take l.column-index l.columns)) n;
}
