-- The last table's answers are settled.
use Rattle.lrp_eval.proofs.answering.answer.Goals as goal

pub returns-clause-answer : goal.returns-clause-answer
returns-clause-answer c = λ planned q h. c.in_ok-settled_answer.ensures.answer planned c.args.database.now q c.args.cap h (c.in_ok-table.ensures.table planned q h)
