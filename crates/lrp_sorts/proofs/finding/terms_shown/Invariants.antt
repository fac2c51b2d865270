use Rattle.std.proofs.Common.{◌≡◌, ◌++◌, List, flat_map, take}
use Rattle.lrp_model.specs.Texts.{Identifier}
use Rattle.lrp_model.specs.Faults.{earliest}
use Rattle.lrp_model.specs.Sorting.{query_standing, term_names, term_faults, column_faults}
use Rattle.lrp_sorts.specs.Scopes.{binders}
use Rattle.lrp_sorts.specs.Widths.{IsTally}
use Rattle.lrp_sorts.proofs.finding.terms_shown.Given as goal

-- what the terms so far show
abbrev pub invariant-loop-i : goal.invariant-loop-i
invariant-loop-i l = record {
  fault : l.fault ≡ earliest query_standing (flat_map (term_faults (binders l.scope)) (take l.i l.terms));
  misfit : l.misfit ≡ earliest query_standing (column_faults (binders l.scope) (take l.i l.terms) l.columns);
  free : (names : List Identifier) → IsTally (binders l.scope) l.quantifiers names l.fn.before → IsTally (binders l.scope) l.quantifiers (names ++ flat_map term_names (take l.i l.terms)) l.free;
}
