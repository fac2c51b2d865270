use Rattle.lrp_sample.proofs.Queries.{query_is_sorted, query_is_plain}
use Rattle.lrp_sample.proofs.laws.sample_query_is_well_sorted.Goals as goal

pub returns-clause-sorted : goal.returns-clause-sorted
returns-clause-sorted c = λ seed size. query_is_sorted seed size

pub returns-clause-plain : goal.returns-clause-plain
returns-clause-plain c = query_is_plain
