use Rattle.lrp_eval.proofs.AnswerCounts.{one_cell_count, one_answer_count}
use Rattle.lrp_eval.proofs.laws.counts_are_unique.Goals as goal

pub returns-clause-cells : goal.returns-clause-cells
returns-clause-cells c = one_cell_count

pub returns-clause-answers : goal.returns-clause-answers
returns-clause-answers c = one_answer_count
