use Rattle.lrp_model.proofs.TokenLaws.{one_token}
use Rattle.lrp_model.proofs.laws.tokens_spell_one_tuple.Goals as goal

pub returns : goal.returns
returns c = λ token digest other times more texts further p q. one_token token digest other times more texts further p q
