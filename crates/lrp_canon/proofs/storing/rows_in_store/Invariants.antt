-- The store holds the groups that are not left.
use Rattle.std.proofs.Common.{◌≡◌, ◌++◌, List}
use Rattle.std.specs.FinMap as finite
use Rattle.lrp_model.specs.declared.tuples.Cell.{Cell}
use Rattle.lrp_store.specs.Stores.{IsStore}
use Rattle.lrp_canon.specs.Making.{HoldsGroups}
use Rattle.lrp_canon.proofs.storing.rows_in_store.Given as goal

abbrev pub invariant-loop-group : goal.invariant-loop-group
invariant-loop-group l = record {
  done : List Cell;
  keys : done ++ l.group-iterator ≡ finite.keys l.groups.lists;
  valid : IsStore l.store;
  shape : l.store.shape ≡ l.fn.shape;
  period : l.store.period ≡ l.periods.least;
  holds : HoldsGroups l.periods l.groups.lists done l.store;
}
