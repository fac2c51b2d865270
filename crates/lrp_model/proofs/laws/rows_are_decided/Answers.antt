use Rattle.lrp_model.proofs.Decided.{decided_in_row}
use Rattle.lrp_model.proofs.laws.rows_are_decided.Goals as goal

pub returns : goal.returns
returns c = λ row tuple. decided_in_row row tuple
