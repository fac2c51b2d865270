use Rattle.lrp_model.proofs.Decided.{decided_holds}
use Rattle.lrp_model.proofs.laws.holding_is_decided.Goals as goal

pub returns : goal.returns
returns c = λ relations name tuple. decided_holds relations name tuple
