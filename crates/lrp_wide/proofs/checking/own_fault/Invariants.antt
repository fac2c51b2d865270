use Rattle.std.proofs.Common.{◌≡◌, ◌++◌, map, take}
use Rattle.lrp_model.specs.Faults.{earliest}
use Rattle.lrp_model.specs.RawQueries.{raw_definition_of}
use Rattle.lrp_model.specs.Sorting.{query_standing}
use Rattle.lrp_wide.specs.WideSorting.{defined_relation}
use Rattle.lrp_wide.proofs.SortFiles.{plain_faults}
use Rattle.lrp_wide.proofs.checking.own_fault.Given as goal

-- the definitions so far are relations, and the first of their faults is found
abbrev pub invariant-loop-i : goal.invariant-loop-i
invariant-loop-i l = record {
  catalog : l.catalog ≡ l.definitions.relations ++ map defined_relation (map raw_definition_of (take l.i l.texts));
  fault : l.fault ≡ earliest query_standing (plain_faults l.definitions.relations (map raw_definition_of (take l.i l.texts)));
}
