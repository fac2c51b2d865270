-- No step has too many cells, and then the number is told.
use Rattle.std.proofs.Common.{Ok}
use Rattle.lrp_model.specs.Formulas.{question_of}
use Rattle.lrp_top.specs.Questions.{question_steps}
use Rattle.lrp_top.proofs.Counted.{few_times_in, told_number, word_ends}
use Rattle.lrp_top.proofs.Listed.{word}
use Rattle.lrp_top.proofs.counting.number.Goals as goal

pub count-requires-clause-column : goal.count-requires-clause-column
count-requires-clause-column c =
    let question = c.args.question.now in
    few_times_in (question_steps question) question.database.relations (question_of question.query.query) _ c.in-Ok.answer c.in-Ok.ensures.answers c.requires.head

pub count-requires-clause-ends : goal.count-requires-clause-ends
count-requires-clause-ends c = let p = c.args.counting.now in word_ends p.civil p.from p.to c.requires.from c.requires.to

pub returns-in-Ok-count : goal.returns-in-Ok-count
returns-in-Ok-count c =
    let question = c.args.question.now in
    let p = c.args.counting.now in
    record {
      due = record {
        first = Ok tt;
        is = c.in-Ok.ensures.counted;
        next = told_number (question_steps question) question.database.relations (question_of question.query.query) p.cap c.in-Ok.answer c.in-Ok.ensures.answers p.from p.to _ _ (word p.from c.requires.from.low c.requires.from.high) (word p.to c.requires.to.low c.requires.to.high) c.in-Ok-count.number c.in-Ok-count.ensures;
      };
    }
