use Rattle.lrp_tense.proofs.Law.{kept_meaning}
use Rattle.lrp_tense.proofs.SameAnswers.{same_answers}
use Rattle.lrp_tense.proofs.laws.expansion_keeps_answers.Goals as goal

pub returns : goal.returns
returns c = λ q relations tuple h small sorted. same_answers relations q tuple (kept_meaning q h small relations sorted)
