use Rattle.lrp_wide.proofs.SortedAnswers.{keeps_answers}
use Rattle.lrp_wide.proofs.laws.expansion_keeps_answers.Goals as goal

pub returns : goal.returns
returns c = λ bytes db f is small sorted. keeps_answers bytes db f is sorted
