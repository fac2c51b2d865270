use Rattle.std.proofs.Common.{◌≡◌, map, take}
use Rattle.lrp_model.specs.Faults.{earliest}
use Rattle.lrp_model.specs.RawQueries.{raw_definition_of}
use Rattle.lrp_model.specs.Sorting.{query_standing}
use Rattle.lrp_wide.specs.WideSorting.{name_faults, defined_relation}
use Rattle.lrp_wide.proofs.checking.definitions_of.Given as goal

-- the definitions so far, and the first whose name was not new
abbrev pub invariant-loop-definition : goal.invariant-loop-definition
invariant-loop-definition l = record {
  definitions : l.definitions ≡ record { relations = l.db; definitions = map defined_relation (map raw_definition_of (take l.definition-index l.written)) };
  fault : l.fault ≡ earliest query_standing (name_faults l.db (map raw_definition_of (take l.definition-index l.written)));
}
