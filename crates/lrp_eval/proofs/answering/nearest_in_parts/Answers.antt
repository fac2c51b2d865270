-- What is known of the last step is told.
use Rattle.lrp_eval.proofs.answering.nearest_in_parts.Goals as goal

pub ending_answers-requires : goal.ending_answers-requires
ending_answers-requires c = record {
  planned = c.requires.plan.planned;
  database = c.args.database.now;
  query = c.requires.plan.query;
  cap = c.args.cap;
  is = c.requires.plan.is;
  ends = c.in_ok-ending.ensures.ending c.requires.plan.planned c.requires.plan.query c.requires.plan.is;
}

pub returns-clause-answers : goal.returns-clause-answers
returns-clause-answers c = λ planned q h. c.in_ok-ending_answers.ensures.first planned c.args.database.now q c.args.cap h (c.in_ok-ending.ensures.ending planned q h)
