-- The store of the rows of all groups is the canonical one, and the answer keeps its head and its texts.
use Rattle.std.proofs.Common.{◌+◌, ◌∙◌, ap, arith, length, subst, sym, w64}
use Rattle.std.specs.Prelude.{pos}
use Rattle.std.proofs.lemmas.Int.{to_z_pos}
use Rattle.lrp_model.specs.Sorts.{time_count}
use Rattle.lrp_model.specs.declared.formulas.Head.{Head}
use Rattle.lrp_model.specs.declared.tuples.Shape.{Shape}
use Rattle.lrp_store.specs.Tables.{AreNumbered}
use Rattle.lrp_canon.specs.Making.{AreGroupCells}
use Rattle.lrp_canon.proofs.CanonLaws.{group_cells, is_canonical, made_column, small_least, still_numbered}
use Rattle.lrp_canon.proofs.GroupEnds.{groups_repeat}
use Rattle.lrp_canon.proofs.LeastLaws.{least_period}
use Rattle.lrp_canon.proofs.answers.canonical.Goals as goal

pub rows_in_store-requires-clause-repeating : goal.rows_in_store-requires-clause-repeating
rows_in_store-requires-clause-repeating c = groups_repeat c.args.answer.now.store c.in_ok-groups.ensures.valid c.requires.column c.requires.reach c.in_ok-groups.groups.lists c.in_ok-groups.ensures.groups c.in_ok-periods.periods c.in_ok-periods.ensures.whole c.in_ok-periods.ensures.least

pub rows_in_store-requires-clause-groups : goal.rows_in_store-requires-clause-groups
rows_in_store-requires-clause-groups c = subst (λ h. AreGroupCells h c.in_ok-groups.groups.lists) (sym c.shape.ensures.value) (group_cells c.args.answer.now.store c.in_ok-groups.ensures.valid c.requires.column c.in_ok-groups.groups.lists c.in_ok-groups.ensures.groups)

pub invariant_of-result-clause-times_are : goal.invariant_of-result-clause-times_are
invariant_of-result-clause-times_are c = ap (λ (h : Head). time_count h.columns) c.in_ok-copy.ensures ∙ c.args.answer.now.times_are ∙ ap (λ (h : Shape). h.times) (sym (c.in_ok-store.ensures.shape ∙ c.shape.ensures.value))

pub invariant_of-result-clause-columns_are : goal.invariant_of-result-clause-columns_are
invariant_of-result-clause-columns_are c = ap (λ (h : Head). length h.columns) c.in_ok-copy.ensures ∙ c.args.answer.now.columns_are ∙ ap (λ (h : Shape). h.times + h.texts) (sym (c.in_ok-store.ensures.shape ∙ c.shape.ensures.value))

pub invariant_of-result-clause-period_is : goal.invariant_of-result-clause-period_is
invariant_of-result-clause-period_is c = to_z_pos w64 c.in_ok-periods.periods.least (omega (arith, small_least c.args.answer.now.store c.in_ok-groups.ensures.valid c.in_ok-groups.groups.lists c.in_ok-periods.periods.least c.in_ok-periods.ensures.least)) ∙ ap pos (sym c.in_ok-store.ensures.period)

pub invariant_of-result-clause-numbered : goal.invariant_of-result-clause-numbered
invariant_of-result-clause-numbered c = subst (λ d. AreNumbered d c.in_ok-store.store) (sym c.in_ok-copy-2.ensures)
    (still_numbered c.args.answer.now.store c.in_ok-groups.groups.lists c.in_ok-groups.ensures.groups c.in_ok-periods.periods c.in_ok-store.store c.in_ok-store.ensures.valid (made_column c.args.answer.now.store c.in_ok-store.store c.requires.column (c.in_ok-store.ensures.shape ∙ c.shape.ensures.value))
    (c.in_ok-store.ensures.shape ∙ c.shape.ensures.value) c.in_ok-store.ensures.holds c.args.answer.now.domain c.args.answer.now.numbered)

pub returns-clause-store : goal.returns-clause-store
returns-clause-store c = is_canonical c.args.answer.now.store c.in_ok-groups.ensures.valid c.requires.column c.in_ok-groups.groups.lists c.in_ok-groups.ensures.groups c.in_ok-periods.periods c.in_ok-periods.ensures.whole c.in_ok-store.store c.in_ok-store.ensures.valid (c.in_ok-store.ensures.shape ∙ c.shape.ensures.value) c.in_ok-store.ensures.period c.in_ok-store.ensures.holds
    (least_period c.args.answer.now.store c.in_ok-groups.ensures.valid c.requires.column c.in_ok-groups.groups.lists c.in_ok-groups.ensures.groups c.in_ok-periods.periods.least c.in_ok-periods.ensures.least)
