-- The last table's store is settled.
use Rattle.std.proofs.Common.{ℕ, List, length, ap, ◌∙◌}
use Rattle.std.specs.Prelude.{pos}
use Rattle.lrp_model.specs.DataTexts.{IsDomain}
use Rattle.lrp_model.specs.Formulas.{Question}
use Rattle.lrp_model.specs.Sorts.{time_count}
use Rattle.lrp_model.specs.Steps.{Steps}
use Rattle.lrp_model.specs.declared.relations.Relation.{Relation}
use Rattle.lrp_store.specs.Stores.{IsStore, StoreView}
use Rattle.lrp_eval.specs.Answered.{IsAnswerOf}
use Rattle.lrp_eval.specs.Ending.{IsAnswerUnder}
use Rattle.lrp_eval.specs.Planned.{HasAnswers, IsPlanOf}
use Rattle.lrp_eval.proofs.AnsweredLaws.{can_settle, head_times_are, head_columns_are, numbered_store, answer_of}
use Rattle.lrp_eval.proofs.GroupLaws.{also_ok}
use Rattle.lrp_eval.proofs.answering.settled_answer.Goals as goal

pub settled-requires : goal.settled-requires
settled-requires c = record {
  valid = c.requires.valid;
  room = can_settle c.requires.table.planned c.requires.table.database c.requires.table.query c.args.plan.now c.requires.table.is c.requires.table.cap c.args.table c.requires.table.answers c.args.table.times_named c.args.table.texts_named;
}

pub answer_with-requires : goal.answer_with-requires
answer_with-requires c = record {
  valid = c.in_ok-store.ensures.valid;
  times = ap time_count c.requires.table.is.is.head
      ∙ head_times_are c.requires.table.planned c.requires.table.database c.requires.table.query c.args.plan.now c.requires.table.is c.requires.table.cap c.args.table c.requires.table.answers c.args.table.times_named c.args.table.texts_named c.in_ok-store.store c.in_ok-store.ensures;
  columns = ap (λ cs. length cs) c.requires.table.is.is.head
      ∙ head_columns_are c.requires.table.planned c.requires.table.database c.requires.table.query c.args.plan.now c.requires.table.is c.requires.table.cap c.args.table c.requires.table.answers c.args.table.times_named c.args.table.texts_named c.in_ok-store.store c.in_ok-store.ensures;
  numbered = numbered_store c.requires.table.planned c.requires.table.database c.requires.table.query c.args.plan.now c.requires.table.is c.requires.table.cap c.args.table c.requires.table.answers c.args.table.times_named c.args.table.texts_named c.in_ok-store.store c.in_ok-store.ensures;
}

pub returns-clause-answer : goal.returns-clause-answer
returns-clause-answer c = also_ok (IsAnswerUnder c.args.plan.now c.in_ok-store.store)
    (λ made. (planned : Steps) (db : List Relation) (q : Question) (cap : ℕ) → IsPlanOf planned db q c.args.plan.now → HasAnswers planned db q cap c.args.table → IsAnswerOf planned db q cap made)
    c.answer_with.result
    (λ made u planned db q cap h a. answer_of planned db q c.args.plan.now h cap c.args.table a c.args.table.times_named c.args.table.texts_named c.in_ok-store.store c.in_ok-store.ensures c.requires.valid made
    (ap (λ x. x.columns) u.head ∙ h.is.head) (u.domain ∙ h.is.domain) (made.period_is ∙ ap (λ (s : StoreView). pos s.period) u.store_is) u.store_is)
    c.answer_with.ensures

pub returns-clause-valid : goal.returns-clause-valid
returns-clause-valid c = also_ok (IsAnswerUnder c.args.plan.now c.in_ok-store.store) (λ made. IsStore made.store) c.answer_with.result (λ made u. u.valid) c.answer_with.ensures

pub returns-clause-domain : goal.returns-clause-domain
returns-clause-domain c = also_ok (IsAnswerUnder c.args.plan.now c.in_ok-store.store) (λ made. IsDomain made.domain) c.answer_with.result (λ made u. u.known) c.answer_with.ensures
