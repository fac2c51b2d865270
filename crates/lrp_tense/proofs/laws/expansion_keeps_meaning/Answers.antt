use Rattle.lrp_tense.proofs.Law.{kept_meaning}
use Rattle.lrp_tense.proofs.laws.expansion_keeps_meaning.Goals as goal

pub returns : goal.returns
returns c = λ q h small. kept_meaning q h small
