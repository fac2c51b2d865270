-- No step has too many cells, and then the least answer is told.
use Rattle.std.proofs.Common.{Ok, Err, refl}
use Rattle.lrp_model.specs.Formulas.{question_of}
use Rattle.lrp_top.specs.Questions.{question_steps}
use Rattle.lrp_top.proofs.PartLemmas.{told_least}
use Rattle.lrp_top.proofs.serving.witness.Goals as goal

pub least_of_parts-requires-clause-some : goal.least_of_parts-requires-clause-some
least_of_parts-requires-clause-some c = c.in-Ok.ensures.answers.some

pub returns-in-Ok : goal.returns-in-Ok
returns-in-Ok c =
    let question = c.args.question.now in
    record {
      due = record {
        first = Ok tt;
        is = c.in-Ok.ensures.counted;
        next = told_least (question_steps question) question.database.relations (question_of question.query.query) c.args.cap c.in-Ok.parts c.in-Ok.ensures.answers c.least_of_parts.result c.args.dates
            c.least_of_parts.ensures.dates c.least_of_parts.ensures.none c.least_of_parts.ensures.some;
      };
    }

pub returns-in-Err : goal.returns-in-Err
returns-in-Err c = record { due = record { first = Err c.in-Err.refusal; is = c.in-Err.ensures.counted; next = refl } }
