-- No step has too many cells, and then the ranges are told.
use Rattle.std.proofs.Common.{Ok}
use Rattle.lrp_model.specs.Formulas.{question_of}
use Rattle.lrp_top.specs.Questions.{question_steps}
use Rattle.lrp_top.proofs.Answered.{one_column}
use Rattle.lrp_top.proofs.Counted.{no_texts_in, told_ranges}
use Rattle.lrp_top.proofs.counting.range_lines.Goals as goal

pub lines_of-requires-clause-column : goal.lines_of-requires-clause-column
lines_of-requires-clause-column c =
    let question = c.args.question.now in
    one_column (question_steps question) question.database.relations (question_of question.query.query) _ c.in-Ok.answer c.in-Ok.ensures.answers c.requires.head.0

pub lines_of-requires-clause-texts : goal.lines_of-requires-clause-texts
lines_of-requires-clause-texts c =
    let question = c.args.question.now in
    no_texts_in (question_steps question) question.database.relations (question_of question.query.query) _ c.in-Ok.answer c.in-Ok.ensures.answers c.requires.head.0 c.requires.head.1

pub returns-in-Ok-lines_of : goal.returns-in-Ok-lines_of
returns-in-Ok-lines_of c =
    let question = c.args.question.now in
    let p = c.args.ranging.now in
    let lines = c.in-Ok-lines_of.lines in
    record {
      due = record {
        first = Ok tt;
        is = c.in-Ok.ensures.counted;
        next = told_ranges (question_steps question) question.database.relations (question_of question.query.query) p.cap c.in-Ok.answer c.in-Ok.ensures.answers p.from p.to p.limit lines.found.ranges lines.found.more lines.civil lines.json p.civil p.json
            c.in-Ok-lines_of.ensures.civil c.in-Ok-lines_of.ensures.json c.in-Ok-lines_of.ensures.ranges;
      };
    }
