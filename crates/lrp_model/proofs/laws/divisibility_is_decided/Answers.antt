use Rattle.lrp_model.proofs.Decided.{decided_divides}
use Rattle.lrp_model.proofs.laws.divisibility_is_decided.Goals as goal

pub returns : goal.returns
returns c = λ k z. decided_divides k z
