-- What is refused first, and then what is told.
use Rattle.std.proofs.Common.{Ok, Err, subst, sym}
use Rattle.lrp_words.specs.Commands.{asked_files}
use Rattle.lrp_outputs.specs.Outcomes.{Outcome}
use Rattle.lrp_outputs.specs.Outputs.{told}
use Rattle.lrp_top.specs.Questions.{IsAsked, IsMadeOf, IsServed, database_source, need_of, query_source}
use Rattle.lrp_top.proofs.QuestionLemmas.{needed_same, question_due, refusal_due}
use Rattle.lrp_top.proofs.questioning.answer_over.Goals as goal

pub returns-in-Ok-clause-due : goal.returns-in-Ok-clause-due
returns-in-Ok-clause-due c =
    let asked = c.args.asked.now in
    let need = need_of asked.purpose in
    let question = c.in-Ok.question in
    let outcome = told c.serve_lent.result.outcome in
    λ seen database query. question_due (asked_files asked.files) need seen question (IsServed asked.files.planning asked.purpose) outcome
    (needed_same (asked_files asked.files) c.head_need-need.result need seen IsMadeOf (Ok question) c.head_need-need.ensures (c.in-Ok.ensures.question seen database query))
    (subst (λ way. IsServed way asked.purpose (database_source question.database) (query_source question.query) question.plan outcome) c.in-Ok.ensures.planning c.serve_lent.ensures.served)

pub returns-in-Err-clause-due : goal.returns-in-Err-clause-due
returns-in-Err-clause-due c =
    let asked = c.args.asked.now in
    let need = need_of asked.purpose in
    λ seen database query. subst (λ (o : Outcome). IsAsked asked.files need seen (IsServed asked.files.planning asked.purpose) o) (sym c.refused.ensures.outcome)
    (refusal_due (asked_files asked.files) need seen c.in-Err.unasked.refusal (IsServed asked.files.planning asked.purpose)
    (needed_same (asked_files asked.files) c.head_need-need.result need seen IsMadeOf (Err c.in-Err.unasked.refusal) c.head_need-need.ensures (c.in-Err.ensures.question seen database query)))
