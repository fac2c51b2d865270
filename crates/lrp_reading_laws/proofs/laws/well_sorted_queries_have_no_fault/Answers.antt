use Rattle.std.proofs.Common.{◌≡◌, ◌∙◌, ap, sym, None, Some}
use Rattle.lrp_model.specs.Faults.{earliest}
use Rattle.lrp_model.specs.Sorting.{query_standing}
use Rattle.lrp_reading_laws.proofs.laws.well_sorted_queries_have_no_fault.Goals as goal

pub returns : goal.returns
returns c = λ relations q fault sorted found. let none : None ≡ Some fault = sym (ap (earliest query_standing) sorted) ∙ found in cc
