-- What the last step has is told.
use Rattle.lrp_eval.proofs.answering.answer_in_parts.Goals as goal

pub ending_answers-requires : goal.ending_answers-requires
ending_answers-requires c = record {
  planned = c.requires.plan.planned;
  database = c.args.database.now;
  query = c.requires.plan.query;
  cap = c.args.cap;
  is = c.requires.plan.is;
  ends = c.in_ok-ending.ensures.ending c.requires.plan.planned c.requires.plan.query c.requires.plan.is;
}

pub returns-clause-answers : goal.returns-clause-answers
returns-clause-answers c = λ planned q h. c.in_ok-ending_answers.ensures.answers planned c.args.database.now q c.args.cap h (c.in_ok-ending.ensures.ending planned q h) c.in_ok-ending.ensures.wanted
