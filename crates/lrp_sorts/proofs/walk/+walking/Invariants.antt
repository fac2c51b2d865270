use Rattle.std.proofs.Common.{◌≡◌, take}
use Rattle.lrp_model.specs.Faults.{earliest}
use Rattle.lrp_model.specs.RawQueries.{raw_forms_of}
use Rattle.lrp_model.specs.Sorting.{query_standing, forms_faults, free_names_each}
use Rattle.lrp_sorts.specs.Scopes.{binders}
use Rattle.lrp_sorts.specs.Widths.{IsTallied}
use Rattle.lrp_sorts.proofs.walk.+walking.Given as goal

-- what the members so far show
abbrev pub invariant-inspect_each-loop-f : goal.invariant-inspect_each-loop-f
invariant-inspect_each-loop-f l = record {
  fault : l.found.fault ≡ earliest query_standing (forms_faults (raw_forms_of (take l.f-index l.fs)) l.catalog (binders l.fn.scope));
  free : IsTallied l.fn.scope (free_names_each (raw_forms_of (take l.f-index l.fs))) l.found.free;
  scope : l.scope ≡ l.fn.scope;
}
