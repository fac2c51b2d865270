-- What the evaluation tells of the question's plan.
use Rattle.std.proofs.Common.{refl, subst}
use Rattle.lrp_eval.specs.Planned.{IsEvalCause}
use Rattle.lrp_model.specs.Formulas.{question_of}
use Rattle.lrp_top.specs.Questions.{question_steps}
use Rattle.lrp_top.proofs.Answered.{last_wide, small_answer}
use Rattle.lrp_top.proofs.serving.answers.Goals as goal

pub answer-requires : goal.answer-requires
answer-requires c = record { plan = record { planned = question_steps c.args.question.now; query = question_of c.args.question.now.query.query; is = c.requires.ready.planned } }

pub returns-in-Ok-clause-counted : goal.returns-in-Ok-clause-counted
returns-in-Ok-clause-counted c = (c.in-Ok.ensures.answer (question_steps c.args.question.now) (question_of c.args.question.now.query.query) c.requires.ready.planned).few

pub returns-in-Ok-clause-answers : goal.returns-in-Ok-clause-answers
returns-in-Ok-clause-answers c = c.in-Ok.ensures.answer (question_steps c.args.question.now) (question_of c.args.question.now.query.query) c.requires.ready.planned

pub returns-in-Err-TooManyCells-clause-counted : goal.returns-in-Err-TooManyCells-clause-counted
returns-in-Err-TooManyCells-clause-counted c =
    let question = c.args.question.now in
    (refl, (subst (λ fault. IsEvalCause question.database.relations question.plan c.args.cap fault) c.in-Err-TooManyCells.field-0-is c.in-Err-TooManyCells.ensures.fault) (question_steps question) (question_of question.query.query) c.requires.ready.planned)

pub returns-in-Ok-clause-room : goal.returns-in-Ok-clause-room
returns-in-Ok-clause-room c =
    let question = c.args.question.now in
    let db = question.database.relations in
    let q = question_of question.query.query in
    let steps = question_steps question in
    let planned = c.requires.ready.planned in
    c.small_answers_have_room.ensures c.in-Ok.answer _ (small_answer steps db q c.args.cap c.in-Ok.answer (c.in-Ok.ensures.answer steps q planned) planned.reach (last_wide steps db q planned.sound))
