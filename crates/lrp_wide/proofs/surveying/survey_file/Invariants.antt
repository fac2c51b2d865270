use Rattle.std.proofs.Common.{◌≡◌, ◌++◌, IsTrue, [], map, take}
use Rattle.std.specs.List.{AllByRecursion}
use Rattle.lrp_model.specs.Faults.{earliest}
use Rattle.lrp_model.specs.RawQueries.{raw_definition_of}
use Rattle.lrp_model.specs.Sorting.{query_standing}
use Rattle.lrp_wide.specs.Counts.{AreRelationsNumbered}
use Rattle.lrp_wide.specs.Inlining.{known_of}
use Rattle.lrp_wide.specs.Inside.{HasPlainBody}
use Rattle.lrp_wide.specs.Sizes.{AreMeasured}
use Rattle.lrp_wide.specs.WideSorting.{defined_relation}
use Rattle.lrp_wide.proofs.SortFiles.{plain_faults}
use Rattle.lrp_wide.proofs.surveying.survey_file.Given as goal

-- the definitions so far are measured and numbered and are relations, and the first of their faults is found
abbrev pub invariant-loop-i : goal.invariant-loop-i
invariant-loop-i l = record {
  sizes : AreMeasured (known_of l.definitions.relations [] (map raw_definition_of (take l.i l.texts))) l.definitions.definitions l.sizes.items;
  numbers : AreRelationsNumbered (known_of l.definitions.relations [] (map raw_definition_of (take l.i l.texts))) l.definitions.definitions l.numbers.items;
  catalog : l.catalog ≡ l.definitions.relations ++ map defined_relation (map raw_definition_of (take l.i l.texts));
  plain : IsTrue l.are_plain → AllByRecursion HasPlainBody (take l.i l.texts);
  fault : IsTrue l.are_plain → l.fault ≡ earliest query_standing (plain_faults l.definitions.relations (map raw_definition_of (take l.i l.texts)));
}
