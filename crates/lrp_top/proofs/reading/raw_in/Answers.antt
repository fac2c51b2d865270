-- What is read in a language is what its reader reads.
use Rattle.std.proofs.Common.{◌≡◌, ◌∙◌, true, false, IfErr, IfOk, sym, ap, subst}
use Rattle.lrp_model.specs.RawQueries.{raw_question_of}
use Rattle.lrp_top.specs.Questions.{IsSaidIn, IsUnreadIn}
use Rattle.lrp_top.specs.declared.language.QueryLanguage.TheVariants.{Wide}
use Rattle.lrp_top.proofs.reading.raw_in.Goals as goal

pub returns-in-FirstOrder-clause-said : goal.returns-in-FirstOrder-clause-said
returns-in-FirstOrder-clause-said c = subst (λ language. IfOk c.usual_query.result (λ raw. IsSaidIn language c.args.database.now c.args.bytes.now (raw_question_of raw))) (sym c.in-FirstOrder.is) c.usual_query.ensures.said

pub returns-in-FirstOrder-clause-refused : goal.returns-in-FirstOrder-clause-refused
returns-in-FirstOrder-clause-refused c = subst (λ language. IfErr c.usual_query.result (IsUnreadIn language c.args.database.now c.args.bytes.now)) (sym c.in-FirstOrder.is) (c.usual_query.ensures.refused c.args.database.now)

pub returns-in-FirstOrder-clause-every : goal.returns-in-FirstOrder-clause-every
returns-in-FirstOrder-clause-every c = λ raw said. c.usual_query.ensures.every raw (subst (λ language. IsSaidIn language c.args.database.now c.args.bytes.now raw) c.in-FirstOrder.is said)

pub returns-in-Temporal-clause-said : goal.returns-in-Temporal-clause-said
returns-in-Temporal-clause-said c = subst (λ language. IfOk c.usual_query-in-Temporal.result (λ raw. IsSaidIn language c.args.database.now c.args.bytes.now (raw_question_of raw))) (sym c.in-Temporal.is) c.usual_query-in-Temporal.ensures.said

pub returns-in-Temporal-clause-refused : goal.returns-in-Temporal-clause-refused
returns-in-Temporal-clause-refused c = subst (λ language. IfErr c.usual_query-in-Temporal.result (IsUnreadIn language c.args.database.now c.args.bytes.now)) (sym c.in-Temporal.is) (c.usual_query-in-Temporal.ensures.refused c.args.database.now)

pub returns-in-Temporal-clause-every : goal.returns-in-Temporal-clause-every
returns-in-Temporal-clause-every c = λ raw said. c.usual_query-in-Temporal.ensures.every raw (subst (λ language. IsSaidIn language c.args.database.now c.args.bytes.now raw) c.in-Temporal.is said)

pub returns-in-Wide-true-clause-said : goal.returns-in-Wide-true-clause-said
returns-in-Wide-true-clause-said c = subst (λ language. IfOk c.civil_query.result (λ raw. IsSaidIn language c.args.database.now c.args.bytes.now (raw_question_of raw))) (sym (c.in-Wide-true.is ∙ ap Wide c.in-Wide-true.civil-test)) c.civil_query.ensures.said

pub returns-in-Wide-true-clause-every : goal.returns-in-Wide-true-clause-every
returns-in-Wide-true-clause-every c = λ raw said. c.civil_query.ensures.every raw (subst (λ language. IsSaidIn language c.args.database.now c.args.bytes.now raw) (c.in-Wide-true.is ∙ ap Wide c.in-Wide-true.civil-test) said)

pub returns-in-Wide-false-clause-said : goal.returns-in-Wide-false-clause-said
returns-in-Wide-false-clause-said c = subst (λ language. IfOk c.wide_query.result (λ raw. IsSaidIn language c.args.database.now c.args.bytes.now (raw_question_of raw))) (sym (c.in-Wide-false.is ∙ ap Wide c.in-Wide-false.civil-test)) c.wide_query.ensures.said

pub returns-in-Wide-false-clause-every : goal.returns-in-Wide-false-clause-every
returns-in-Wide-false-clause-every c = λ raw said. c.wide_query.ensures.every raw (subst (λ language. IsSaidIn language c.args.database.now c.args.bytes.now raw) (c.in-Wide-false.is ∙ ap Wide c.in-Wide-false.civil-test) said)
