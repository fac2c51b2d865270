-- The first refusal, or the answers.
use Rattle.std.proofs.Common.{◌≡◌, None, Ok, Err, List, subst, sym}
use Rattle.std.specs.Prelude.{IfErr, IfOk, ℕ}
use Rattle.lrp_model.specs.Formulas.{question_of}
use Rattle.lrp_model.specs.declared.plans.Planning.{Planning}
use Rattle.lrp_words.specs.Commands.{asked_files}
use Rattle.lrp_top.specs.Due.{IsPlannedAs}
use Rattle.lrp_top.specs.Keeping.{IsPageBegun, IsPageDue, IsQuerySaid, language_asked}
use Rattle.lrp_top.specs.Questions.{IsMadeOf, IsServed, database_source, query_source}
use Rattle.lrp_top.specs.declared.files.DatabaseFile.{DatabaseFile}
use Rattle.lrp_words.specs.declared.purpose.Purpose.TheVariants as purpose
use Rattle.lrp_top.proofs.PagingLemmas.{if_err}
use Rattle.lrp_top.proofs.QuestionLemmas.{question_due, refusal_due}
use Rattle.lrp_top.proofs.paging.begin.Goals as goal

pub answers_for-requires-clause-said : goal.answers_for-requires-clause-said
answers_for-requires-clause-said c = subst (λ (d : DatabaseFile). IsQuerySaid (language_asked c.args.page.now.files) d.relations c.in-Ok.question.query) (sym c.in-Ok.ensures.database) c.in-Ok.ensures.said

pub answers_for-requires-clause-planned : goal.answers_for-requires-clause-planned
answers_for-requires-clause-planned c =
    let question = c.in-Ok.question in
    subst (λ (d : DatabaseFile). IsPlannedAs question.planning None d.relations (question_of question.query.query) (Ok question.plan)) (sym c.in-Ok.ensures.database) c.in-Ok.ensures.planned

pub returns-in-Ok-clause-begun : goal.returns-in-Ok-clause-begun
returns-in-Ok-clause-begun c =
    let page = c.args.page.now in
    let made = c.answers_for.result in
    subst (λ (d : DatabaseFile). IfOk made (IsPageBegun page d c.args.query)) c.in-Ok.ensures.database (subst (λ (bytes : List ℕ). IfOk made (IsPageBegun page c.in-Ok.question.database bytes)) c.in-Ok.ensures.bytes c.answers_for.ensures.begun)

pub returns-in-Ok-clause-refused : goal.returns-in-Ok-clause-refused
returns-in-Ok-clause-refused c =
    let page = c.args.page.now in
    let question = c.in-Ok.question in
    if_err c.answers_for.result (λ unasked listed. λ seen database query. question_due (asked_files page.files) None seen question (IsServed page.files.planning (purpose.Page page.paging)) (Err unasked.refusal) (c.in-Ok.ensures.question seen database query)
    (subst (λ (way : Planning). IsServed way (purpose.Page page.paging) (database_source question.database) (query_source question.query) question.plan (Err unasked.refusal)) c.in-Ok.ensures.planning (listed question.plan))) c.answers_for.ensures.refused

pub returns-in-Ok-clause-file : goal.returns-in-Ok-clause-file
returns-in-Ok-clause-file c = subst (λ (d : DatabaseFile). IfErr c.answers_for.result (λ unasked. unasked.file ≡ d)) c.in-Ok.ensures.database c.answers_for.ensures.file

pub returns-in-Err-clause-refused : goal.returns-in-Err-clause-refused
returns-in-Err-clause-refused c =
    let page = c.args.page.now in
    λ seen database query. refusal_due (asked_files page.files) None seen c.in-Err.unasked.refusal (IsServed page.files.planning (purpose.Page page.paging)) (c.in-Err.ensures.question seen database query)
