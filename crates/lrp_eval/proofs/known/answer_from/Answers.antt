-- The last table's answers are settled.
use Rattle.lrp_eval.proofs.known.answer_from.Goals as goal

pub returns-clause-answer : goal.returns-clause-answer
returns-clause-answer c = λ planned q h. c.in_ok-answer.ensures.answer planned c.args.database.now q c.args.cap h (c.in_ok-table.ensures.table planned q h)
