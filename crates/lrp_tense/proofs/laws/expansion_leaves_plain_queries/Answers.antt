use Rattle.lrp_tense.proofs.Unchanged.{unchanged_query}
use Rattle.lrp_tense.proofs.laws.expansion_leaves_plain_queries.Goals as goal

pub returns : goal.returns
returns c = λ q none. unchanged_query q none
