use Rattle.lrp_answer_text.proofs.AnswerLaw.{is_text}
use Rattle.lrp_answer_text.proofs.laws.answers_are_texts.Goals as goal

pub returns : goal.returns
returns c = λ called db q a n h. is_text called db q a n h
