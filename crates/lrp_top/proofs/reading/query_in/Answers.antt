-- What the file says of the query; and what a query that was read has, the checked one has too, so it is settled.
use Rattle.std.proofs.Common.{◌≡◌, ◌∙◌, refl, sym, ap, subst}
use Rattle.std.proofs.lemmas.Result.{err_from_is_err_and}
use Rattle.lrp_model.specs.Checked.{plain_question}
use Rattle.lrp_model.specs.Core.{HasElements}
use Rattle.lrp_model.specs.Formulas.{Question, form_of, question_of}
use Rattle.lrp_model.specs.RawQueries.{raw_form_of, raw_question_of}
use Rattle.lrp_answer_text.specs.Answering.{AreAnswerColumns}
use Rattle.lrp_plan_laws.specs.Rising.{HasPeriods}
use Rattle.lrp_plan_laws.specs.Settled.{IsSettled}
use Rattle.lrp_top.specs.Questions.{IsSaidIn, IsUnreadIn}
use Rattle.lrp_top.proofs.KeptTexts.{texts_placed}
use Rattle.lrp_top.proofs.Plannable.{has_members, has_periods}
use Rattle.lrp_top.proofs.ReadingLemmas.{sorted_in, unread_in, unsorted_every, unsorted_in}
use Rattle.lrp_top.proofs.reading.query_in.Goals as goal

pub returns-in_err-raw-clause-asked : goal.returns-in_err-raw-clause-asked
returns-in_err-raw-clause-asked c =
    let p = err_from_is_err_and c.from_residual.result c.from_residual.ensures.1 in
    let unread = subst (λ bytes. IsUnreadIn c.args.language c.args.database.now bytes c.in_err-raw.field-0.0) c.as_slice.ensures c.in_err-raw.ensures.refused in
    λ seen name. rw (p.1, p.2) (unread_in c.args.language c.args.database.now seen name c.args.bytes c.in_err-raw.field-0.0 c.requires unread)

pub returns-in_err-query-clause-asked : goal.returns-in_err-query-clause-asked
returns-in_err-query-clause-asked c =
    let p = err_from_is_err_and c.from_residual-in_err-query.result c.from_residual-in_err-query.ensures.1 in
    let raw = raw_question_of c.in_ok-raw.raw in
    let said = subst (λ bytes. IsSaidIn c.args.language c.args.database.now bytes raw) c.as_slice.ensures c.in_ok-raw.ensures.said in
    λ seen name. rw (p.1, p.2) (unsorted_in c.args.language c.args.database.now seen name c.args.bytes raw c.in_err-query.field-0.0 c.requires said c.in_err-query.ensures.refused)

pub returns-clause-asked : goal.returns-clause-asked
returns-clause-asked c =
    let raw = raw_question_of c.in_ok-raw.raw in
    let said = subst (λ bytes. IsSaidIn c.args.language c.args.database.now bytes raw) c.as_slice.ensures c.in_ok-raw.ensures.said in
    λ seen name. (refl, c.requires, sorted_in c.expansion_keeps_answers.ensures c.args.language c.args.database.now c.args.bytes raw (question_of c.in_ok-query.query) said c.in_ok-query.ensures.sorted c.in_ok-query.ensures.query)

pub returns-in_err-raw-clause-every : goal.returns-in_err-raw-clause-every
returns-in_err-raw-clause-every c =
    let p = err_from_is_err_and c.from_residual.result c.from_residual.ensures.1 in
    λ raw said sorted. rw (p.1, p.2) (c.in_err-raw.ensures.every raw (subst (λ bytes. IsSaidIn c.args.language c.args.database.now bytes raw) (sym c.as_slice.ensures) said))

pub returns-in_err-query-clause-every : goal.returns-in_err-query-clause-every
returns-in_err-query-clause-every c =
    let p = err_from_is_err_and c.from_residual-in_err-query.result c.from_residual-in_err-query.ensures.1 in
    λ raw said sorted. rw (p.1, p.2) (unsorted_every c.args.database.now raw (raw_question_of c.in_ok-raw.raw) c.in_err-query.field-0.0
    (c.in_ok-raw.ensures.every raw (subst (λ bytes. IsSaidIn c.args.language c.args.database.now bytes raw) (sym c.as_slice.ensures) said)) c.in_err-query.ensures.every_query sorted)

pub returns-clause-every : goal.returns-clause-every
returns-clause-every c = λ raw said sorted. c.in_ok-query.ensures.query ∙ ap plain_question (c.in_ok-raw.ensures.every raw (subst (λ bytes. IsSaidIn c.args.language c.args.database.now bytes raw) (sym c.as_slice.ensures) said))

pub returns-clause-fit : goal.returns-clause-fit
returns-clause-fit c =
    let db = c.args.database.now in
    let raw = raw_question_of c.in_ok-raw.raw in
    let q = question_of c.in_ok-query.query in
    let lawful = c.in_ok-raw.ensures.lawful c.in_ok-query.ensures.sorted in
    let same : q ≡ plain_question raw = c.in_ok-query.ensures.query in
    let points = has_periods (form_of c.in_ok-query.query.body) (raw_form_of c.in_ok-raw.raw.body) lawful.sizes c.in_ok-query.ensures.points in
    let elements : HasElements q.body = c.in_ok-query.ensures.members (has_members (raw_form_of c.in_ok-raw.raw.body) lawful.sizes) in
    let periods : HasPeriods db q = c.kept_queries_have_periods.ensures db q c.relations.ensures.kept.each points in
    record {
      settled = subst (IsSettled db) (sym same)
          (c.sorted_queries_are_settled.ensures db raw c.in_ok-query.ensures.sorted (texts_placed db c.relations.ensures.kept.each) (subst (λ (x : Question). HasElements x.body) same elements) (subst (HasPeriods db) same periods));
      points = points;
      head = subst (λ (x : Question). AreAnswerColumns x.head) (sym same) (c.heads_are_columns.ensures db raw c.in_ok-query.ensures.sorted lawful.names);
    }
