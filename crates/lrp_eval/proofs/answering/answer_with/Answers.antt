-- The store stands under the head.
use Rattle.std.proofs.Common.{arith, refl, ap, subst, sym, ◌∙◌, length}
use Rattle.lrp_model.specs.Sorts.{time_count}
use Rattle.lrp_model.specs.declared.formulas.Head.{Head}
use Rattle.lrp_store.specs.Tables.{AreNumbered}
use Rattle.lrp_eval.proofs.AnsweredLaws.{word_is}
use Rattle.lrp_eval.proofs.answering.answer_with.Goals as goal

pub invariant_of-result-clause-times_are : goal.invariant_of-result-clause-times_are
invariant_of-result-clause-times_are c = ap (λ (h : Head). time_count h.columns) c.in_ok-head.ensures ∙ c.requires.times

pub invariant_of-result-clause-columns_are : goal.invariant_of-result-clause-columns_are
invariant_of-result-clause-columns_are c = ap (λ (h : Head). length h.columns) c.in_ok-head.ensures ∙ c.requires.columns

pub invariant_of-result-clause-period_is : goal.invariant_of-result-clause-period_is
invariant_of-result-clause-period_is c = word_is c.args.store.period c.period-period.result c.period-period.ensures c.requires.valid.period_high

pub invariant_of-result-clause-numbered : goal.invariant_of-result-clause-numbered
invariant_of-result-clause-numbered c = subst (λ d. AreNumbered d c.args.store) (sym c.in_ok-domain.ensures) c.requires.numbered

pub returns : goal.returns
returns c = record {
  head = c.in_ok-head.ensures;
  domain = c.in_ok-domain.ensures;
  store_is = refl;
  valid = c.requires.valid;
  known = record { whole = c.len.ensures.whole; ascends = c.len.ensures.ascending; few = omega (arith, c.len.ensures.count) };
}
