use Rattle.lrp_answers.proofs.HeadOrder.{spot_tuple_is}
use Rattle.lrp_answer_text.proofs.lines.write_line.Goals as goal

pub returns-clause-tuple : goal.returns-clause-tuple
returns-clause-tuple g c = λ tuple h s. spot_tuple_is _ _ _ _ tuple h s
