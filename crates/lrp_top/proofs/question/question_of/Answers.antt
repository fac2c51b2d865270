-- The first refusal, or all that was read and planned.
use Rattle.std.proofs.Common.{refl, sym}
use Rattle.std.proofs.lemmas.Result.{err_from_is_err_and}
use Rattle.lrp_model.specs.Formulas.{question_of}
use Rattle.lrp_words.specs.Commands.{asked_files}
use Rattle.lrp_top.specs.Languages.{civil_by, language_by}
use Rattle.lrp_top.proofs.QuestionLemmas.{asked_since, plan_refused, planned_as, query_refused, question_read, read_before}
use Rattle.lrp_top.specs.Questions.{IsMadeOf, database_source, query_source}
use Rattle.lrp_io.proofs.StartsLemmas.{first_and_only, only_first}
use Rattle.lrp_top.proofs.question.question_of.Goals as goal

pub returns-in_err-query-clause-question : goal.returns-in_err-query-clause-question
returns-in_err-query-clause-question g c =
    let p = err_from_is_err_and c.from_residual-in_err-query.result c.from_residual-in_err-query.ensures.1 in
    rw (p.1, p.2) (query_refused (asked_files c.args.files.now) c.args.need _ (database_source c.in_ok-database.database) c.in_err-query.field-0.0 IsMadeOf
    (read_before (civil_by (asked_files c.args.files.now)) _ _ _ _ c.in_ok-database.ensures.read refl)
    (asked_since (language_by (asked_files c.args.files.now)) _ _ _ _ _ _ c.in_err-query.ensures.asked (sym c.in_ok-database.ensures.files) (c.in_ok-database.ensures.later c.args.files.now.query.now)))

pub returns-in_err-plan-clause-question : goal.returns-in_err-plan-clause-question
returns-in_err-plan-clause-question g c =
    let p = err_from_is_err_and c.from_residual-in_err-plan.result c.from_residual-in_err-plan.ensures.1 in
    rw (p.1, p.2) (plan_refused (asked_files c.args.files.now) c.args.need _ (database_source c.in_ok-database.database) (query_source c.in_ok-query.query) c.in_err-plan.field-0.0 IsMadeOf
    (read_before (civil_by (asked_files c.args.files.now)) _ _ _ _ c.in_ok-database.ensures.read refl)
    (asked_since (language_by (asked_files c.args.files.now)) _ _ _ _ _ _ c.in_ok-query.ensures.asked (sym c.in_ok-database.ensures.files) (c.in_ok-database.ensures.later c.args.files.now.query.now))
    c.in_err-plan.ensures.planned)

pub returns-clause-question : goal.returns-clause-question
returns-clause-question g c =
    question_read (asked_files c.args.files.now) c.args.need _ (database_source c.in_ok-database.database) (query_source c.in_ok-query.query) c.in_ok-plan.plan IsMadeOf _
    (read_before (civil_by (asked_files c.args.files.now)) _ _ _ _ c.in_ok-database.ensures.read refl)
    (asked_since (language_by (asked_files c.args.files.now)) _ _ _ _ _ _ c.in_ok-query.ensures.asked (sym c.in_ok-database.ensures.files) (c.in_ok-database.ensures.later c.args.files.now.query.now))
    c.in_ok-plan.ensures.planned (refl, refl, refl)

pub returns-clause-long : goal.returns-clause-long
returns-clause-long g c = λ name over. c.in_ok-query.ensures.long name (record { named = over.named; many = over.many })

pub returns-clause-ready : goal.returns-clause-ready
returns-clause-ready g c =
    let fit = c.in_ok-query.ensures.fit in
    let planned = planned_as c.args.files.now.planning c.args.need c.in_ok-database.database.relations (question_of c.in_ok-query.query.query) c.in_ok-plan.plan c.in_ok-plan.ensures.planned in
    record {
      planned = record {
        settled = fit.settled;
        sound = c.in_ok-plan.ensures.sound;
        points = fit.points;
        is = planned.0;
        period = planned.1.period;
        reach = planned.1.reach;
      };
      writable = c.in_ok-plan.ensures.writable;
      head = fit.head;
    }

pub returns-in_err-database-clause-starts : goal.returns-in_err-database-clause-starts
returns-in_err-database-clause-starts g c = only_first _ _ _ _ c.in_err-database.ensures.starts

pub returns-in_err-query-clause-starts : goal.returns-in_err-query-clause-starts
returns-in_err-query-clause-starts g c = first_and_only _ _ _ _ _ c.in_ok-database.ensures.starts (only_first _ _ _ _ c.in_err-query.ensures.starts)

pub returns-in_err-plan-clause-starts : goal.returns-in_err-plan-clause-starts
returns-in_err-plan-clause-starts g c = first_and_only _ _ _ _ _ c.in_ok-database.ensures.starts (only_first _ _ _ _ c.in_ok-query.ensures.starts)

pub returns-clause-starts : goal.returns-clause-starts
returns-clause-starts g c = first_and_only _ _ _ _ _ c.in_ok-database.ensures.starts (only_first _ _ _ _ c.in_ok-query.ensures.starts)
