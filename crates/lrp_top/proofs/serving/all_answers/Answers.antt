-- No step has too many cells, and then the text of all answers is told.
use Rattle.std.proofs.Common.{Ok, Err, refl, subst, sym}
use Rattle.lrp_model.specs.AnswerTexts.{IsAnswerText, IsAnswerTextOf}
use Rattle.lrp_model.specs.Formulas.{question_of}
use Rattle.lrp_model.specs.Texts.{Identifier}
use Rattle.lrp_answer_text.specs.AnswerText.{named_answer_text}
use Rattle.lrp_top.specs.Questions.{question_steps}
use Rattle.lrp_top.proofs.Answered.{period_of}
use Rattle.lrp_top.proofs.serving.all_answers.Goals as goal

pub returns-in-Ok : goal.returns-in-Ok
returns-in-Ok c =
    let db = c.args.question.now.database.relations in
    let q = question_of c.args.question.now.query.query in
    let called = c.args.name in
    let answered = c.in-Ok.ensures.answers in
    record {
      due = record {
        first = Ok tt;
        is = c.in-Ok.ensures.counted;
        next = subst (λ (n : Identifier). IsAnswerText called db q (named_answer_text n c.new.result.answer)) (sym c.new.ensures.name)
            (subst (λ a. IsAnswerText called db q (named_answer_text called a)) (sym c.new.ensures.answer) (subst (λ k. IsAnswerTextOf called k db q (named_answer_text called c.in-Ok.answer)) (period_of (question_steps c.args.question.now) db q c.args.cap c.in-Ok.answer answered c.requires.ready.planned.sound.period) (c.answers_are_texts.ensures called db q c.in-Ok.answer c.requires.name (record {
              store = c.in-Ok.ensures.valid;
              ascends = c.in-Ok.ensures.domain.ascends;
              head = answered.head;
              answers = answered.answers;
              settled = answered.settled;
              room = c.in-Ok.ensures.room;
              texts = c.in-Ok.ensures.domain.whole;
              columns = c.requires.ready.head;
            }))));
      };
    }

pub returns-in-Err : goal.returns-in-Err
returns-in-Err c = record { due = record { first = Err c.in-Err.refusal; is = c.in-Err.ensures.counted; next = refl } }
