-- What is refused first, and then what is told for the purpose.
use Rattle.std.proofs.Common.{Ok, Err, subst}
use Rattle.lrp_words.specs.Commands.{asked_files}
use Rattle.lrp_top.proofs.QuestionLemmas.{needed_same, question_due, refusal_due}
use Rattle.lrp_outputs.specs.Outputs.{told}
use Rattle.lrp_top.specs.Questions.{IsMadeOf, IsServed, database_source, need_of, query_source}
use Rattle.lrp_top.proofs.deciding.answer_to.Goals as goal

pub returns-in-Ok-clause-due : goal.returns-in-Ok-clause-due
returns-in-Ok-clause-due g c =
    let asked = c.args.asked.now in
    let need = need_of asked.purpose in
    let question = c.in-Ok.question in
    question_due (asked_files asked.files) need _ question (IsServed asked.files.planning asked.purpose) (told c.serve.result)
    (needed_same (asked_files asked.files) c.head_need-need.result need _ IsMadeOf (Ok question) c.head_need-need.ensures c.in-Ok.ensures.question)
    (subst (λ way. IsServed way asked.purpose (database_source question.database) (query_source question.query) question.plan (told c.serve.result)) c.in-Ok.ensures.planning c.serve.ensures.served)

pub returns-in-Err-clause-due : goal.returns-in-Err-clause-due
returns-in-Err-clause-due g c =
    let asked = c.args.asked.now in
    let need = need_of asked.purpose in
    refusal_due (asked_files asked.files) need _ c.in-Err.refusal (IsServed asked.files.planning asked.purpose)
    (needed_same (asked_files asked.files) c.head_need-need.result need _ IsMadeOf (Err c.in-Err.refusal) c.head_need-need.ensures c.in-Err.ensures.question)

pub returns-in-Ok-clause-long : goal.returns-in-Ok-clause-long
returns-in-Ok-clause-long g c = λ name over. absurd (c.in-Ok.ensures.long name over)
