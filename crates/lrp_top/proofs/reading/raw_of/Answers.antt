-- What is read of the text is what it says, and it says one query.
use Rattle.std.proofs.Common.{IfOk, sym, subst}
use Rattle.std.proofs.lemmas.Result.{err_from_is_err_and}
use Rattle.lrp_model.specs.RawQueries.{RawQuestion, raw_question_of}
use Rattle.lrp_model.specs.Outcomes.{IsQueryOrMemory}
use Rattle.lrp_top.specs.Questions.{IsExpansionOf, IsSaidBy}
use Rattle.lrp_top.proofs.ReadingLemmas.{expanded_once, tense_unread_every}
use Rattle.lrp_top.proofs.reading.raw_of.Goals as goal

pub returns-then-not-tense-clause-said : goal.returns-then-not-tense-clause-said
returns-then-not-tense-clause-said c = subst (λ tense. IfOk c.read_query.result (λ raw. IsSaidBy tense c.args.bytes.now (raw_question_of raw))) (sym c.if-not-tense.true) c.read_query.ensures.query

pub returns-then-not-tense-clause-every : goal.returns-then-not-tense-clause-every
returns-then-not-tense-clause-every c = subst (λ tense. (raw : RawQuestion) → IsSaidBy tense c.args.bytes.now raw → IsQueryOrMemory raw_question_of raw c.read_query.result) (sym c.if-not-tense.true) c.read_query.ensures.every_query

pub returns-in_err-written-clause-every : goal.returns-in_err-written-clause-every
returns-in_err-written-clause-every c =
    let p = err_from_is_err_and c.from_residual.result c.from_residual.ensures.1 in
    λ raw said. rw (p.1, p.2) (tense_unread_every c.args.tense c.args.bytes.now c.in_err-written.field-0.0 c.if-not-tense.false c.in_err-written.ensures.every_query raw said)

pub returns-in-Ok-clause-said : goal.returns-in-Ok-clause-said
returns-in-Ok-clause-said c =
    let said : IsExpansionOf c.args.bytes.now (raw_question_of c.in-Ok.raw) = record {
      written = raw_question_of c.in_ok-written.written;
      query = c.in_ok-written.ensures.query;
      is = c.in-Ok.ensures.tree;
      keeps = c.in-Ok.ensures.meaning;
    } in
    subst (λ tense. IsSaidBy tense c.args.bytes.now (raw_question_of c.in-Ok.raw)) (sym c.if-not-tense.false) said

pub returns-in-Ok-clause-every : goal.returns-in-Ok-clause-every
returns-in-Ok-clause-every c = λ raw said. expanded_once c.args.tense c.args.bytes.now (raw_question_of c.in_ok-written.written) (raw_question_of c.in-Ok.raw) c.if-not-tense.false c.in-Ok.ensures.tree c.in_ok-written.ensures.every_query raw said
