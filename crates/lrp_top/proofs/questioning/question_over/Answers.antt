-- The first refusal, or all that was read and planned.
use Rattle.std.proofs.Common.{[], Ok, Err, refl, subst}
use Rattle.lrp_model.specs.Formulas.{question_of}
use Rattle.lrp_words.specs.Commands.{asked_files}
use Rattle.lrp_top.specs.Keeping.{IsQuerySaid, civil_asked, language_asked}
use Rattle.lrp_top.specs.declared.language.QueryLanguage.{QueryLanguage}
use Rattle.lrp_top.specs.Questions.{IsMadeOf, database_source, query_source}
use Rattle.lrp_top.proofs.KeepingLemmas.{kept_read, said_for, said_of, unseen}
use Rattle.lrp_top.proofs.QuestionLemmas.{plan_refused, planned_as, query_refused, question_read}
use Rattle.lrp_top.proofs.questioning.question_over.Goals as goal

pub returns-in-Ok-fit_plan-clause-question : goal.returns-in-Ok-fit_plan-clause-question
returns-in-Ok-fit_plan-clause-question c =
    let files = c.args.files.now in
    let file = c.args.file in
    let said = c.in-Ok.said in
    λ seen database query. question_read (asked_files files) c.args.need seen (database_source file) (query_source said) c.in-Ok-fit_plan.plan IsMadeOf _
    (kept_read (civil_asked files) file seen files.database.now c.requires.read database)
    (said_for c.language_of.result (language_asked files) file.relations seen files.query.now c.args.query (Ok said) c.language_of.ensures query c.in-Ok.ensures.asked)
    c.in-Ok-fit_plan.ensures.planned (refl, refl, refl)

pub returns-in-Err-fit_plan-clause-question : goal.returns-in-Err-fit_plan-clause-question
returns-in-Err-fit_plan-clause-question c =
    let files = c.args.files.now in
    let file = c.args.file in
    let said = c.in-Ok.said in
    λ seen database query. plan_refused (asked_files files) c.args.need seen (database_source file) (query_source said) c.in-Err-fit_plan.refusal IsMadeOf
    (kept_read (civil_asked files) file seen files.database.now c.requires.read database)
    (said_for c.language_of.result (language_asked files) file.relations seen files.query.now c.args.query (Ok said) c.language_of.ensures query c.in-Ok.ensures.asked)
    c.in-Err-fit_plan.ensures.planned

pub returns-in-Err-clause-question : goal.returns-in-Err-clause-question
returns-in-Err-clause-question c =
    let files = c.args.files.now in
    let file = c.args.file in
    λ seen database query. query_refused (asked_files files) c.args.need seen (database_source file) c.in-Err.refusal IsMadeOf
    (kept_read (civil_asked files) file seen files.database.now c.requires.read database)
    (said_for c.language_of.result (language_asked files) file.relations seen files.query.now c.args.query (Err c.in-Err.refusal) c.language_of.ensures query c.in-Err.ensures.asked)

pub returns-in-Ok-fit_plan-clause-bytes : goal.returns-in-Ok-fit_plan-clause-bytes
returns-in-Ok-fit_plan-clause-bytes c = (c.in-Ok.ensures.asked unseen []).0

pub returns-in-Ok-fit_plan-clause-said : goal.returns-in-Ok-fit_plan-clause-said
returns-in-Ok-fit_plan-clause-said c = subst (λ (l : QueryLanguage). IsQuerySaid l c.args.file.relations c.in-Ok.said) c.language_of.ensures (said_of c.language_of.result c.args.file.relations c.in-Ok.said c.args.query (c.in-Ok.ensures.asked unseen []))

pub returns-in-Ok-fit_plan-clause-ready : goal.returns-in-Ok-fit_plan-clause-ready
returns-in-Ok-fit_plan-clause-ready c =
    let fit = c.in-Ok.ensures.fit in
    let planned = planned_as c.args.files.now.planning c.args.need c.args.file.relations (question_of c.in-Ok.said.query) c.in-Ok-fit_plan.plan c.in-Ok-fit_plan.ensures.planned in
    record {
      planned = record {
        settled = fit.settled;
        sound = c.in-Ok-fit_plan.ensures.sound;
        points = fit.points;
        is = planned.0;
        period = planned.1.period;
        reach = planned.1.reach;
      };
      writable = c.in-Ok-fit_plan.ensures.writable;
      head = fit.head;
    }
