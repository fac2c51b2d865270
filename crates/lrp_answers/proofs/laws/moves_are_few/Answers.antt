use Rattle.lrp_answers.proofs.Few.{few}
use Rattle.lrp_answers.proofs.laws.moves_are_few.Goals as goal

pub returns : goal.returns
returns c = λ w position cursors spot are. few w position cursors are spot
