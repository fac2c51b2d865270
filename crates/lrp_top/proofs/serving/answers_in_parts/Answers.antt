-- What the evaluation tells of the question's plan, in parts.
use Rattle.std.proofs.Common.{refl, subst}
use Rattle.lrp_eval.specs.Planned.{IsEvalCause}
use Rattle.lrp_model.specs.Formulas.{question_of}
use Rattle.lrp_store.specs.Least.{HasRoom}
use Rattle.lrp_answers.specs.declared.answer.Answer.{Answer}
use Rattle.lrp_answers.proofs.MergeLaws.{all_by}
use Rattle.lrp_top.specs.Questions.{question_steps}
use Rattle.lrp_top.proofs.PartLemmas.{alike, small_part}
use Rattle.lrp_top.proofs.serving.answers_in_parts.Goals as goal

pub answer_in_parts-requires : goal.answer_in_parts-requires
answer_in_parts-requires c = record { plan = record { planned = question_steps c.args.question.now; query = question_of c.args.question.now.query.query; is = c.requires.ready.planned } }

pub returns-in-Ok-clause-counted : goal.returns-in-Ok-clause-counted
returns-in-Ok-clause-counted c = (c.in-Ok.ensures.answers (question_steps c.args.question.now) (question_of c.args.question.now.query.query) c.requires.ready.planned).few

pub returns-in-Ok-clause-answers : goal.returns-in-Ok-clause-answers
returns-in-Ok-clause-answers c = c.in-Ok.ensures.answers (question_steps c.args.question.now) (question_of c.args.question.now.query.query) c.requires.ready.planned

pub returns-in-Ok-clause-alike : goal.returns-in-Ok-clause-alike
returns-in-Ok-clause-alike c =
    let question = c.args.question.now in
    let q = question_of question.query.query in
    alike (question_steps question) question.database.relations q c.in-Ok.parts (c.in-Ok.ensures.answers (question_steps question) q c.requires.ready.planned).each

pub returns-in-Ok-clause-room : goal.returns-in-Ok-clause-room
returns-in-Ok-clause-room c =
    let question = c.args.question.now in
    let db = question.database.relations in
    let q = question_of question.query.query in
    let steps = question_steps question in
    let planned = c.requires.ready.planned in
    all_by (λ (part : Answer). HasRoom part.store) c.in-Ok.parts (λ part listed. c.small_answers_have_room.ensures part _ (small_part steps db q c.in-Ok.parts (c.in-Ok.ensures.answers steps q planned).each planned.reach part listed))

pub returns-in-Err-TooManyCells-clause-counted : goal.returns-in-Err-TooManyCells-clause-counted
returns-in-Err-TooManyCells-clause-counted c =
    let question = c.args.question.now in
    (refl, (subst (λ fault. IsEvalCause question.database.relations question.plan c.args.cap fault) c.in-Err-TooManyCells.field-0-is c.in-Err-TooManyCells.ensures.fault) (question_steps question) (question_of question.query.query) c.requires.ready.planned)
