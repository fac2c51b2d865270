use Rattle.lrp_model.specs.Sorting.{query_faults}
use Rattle.lrp_reading_laws.proofs.EverySorting.{none_or_first}
use Rattle.lrp_reading_laws.proofs.laws.every_query_is_well_sorted_or_faulty.Goals as goal

pub returns : goal.returns
returns c = λ relations q. none_or_first (query_faults relations q)
