-- The store of the rows of all groups is the canonical one, and the answer keeps its head and its texts.
use Rattle.std.proofs.Common.{◌+◌, ◌∙◌, ap, arith, subst, sym, w64}
use Rattle.std.specs.Prelude.{pos}
use Rattle.std.proofs.lemmas.Int.{to_z_pos}
use Rattle.lrp_model.specs.declared.tuples.Shape.{Shape}
use Rattle.lrp_canon.specs.Making.{AreGroupCells}
use Rattle.lrp_canon.proofs.CanonLaws.{group_cells, is_canonical, made_column, small_least, still_numbered}
use Rattle.lrp_canon.proofs.GroupEnds.{groups_repeat}
use Rattle.lrp_canon.proofs.LeastLaws.{least_period}
use Rattle.lrp_canon.proofs.answers.of_groups.Goals as goal

pub rows_in_store-requires-clause-repeating : goal.rows_in_store-requires-clause-repeating
rows_in_store-requires-clause-repeating c = groups_repeat c.args.answer.store c.requires.valid c.requires.can.column c.requires.can.reach c.args.groups.now.lists c.requires.groups c.args.periods c.requires.whole c.requires.least

pub rows_in_store-requires-clause-groups : goal.rows_in_store-requires-clause-groups
rows_in_store-requires-clause-groups c = subst (λ h. AreGroupCells h c.args.groups.now.lists) (sym c.shape_of-shape.ensures) (group_cells c.args.answer.store c.requires.valid c.requires.can.column c.args.groups.now.lists c.requires.groups)

pub invariant_of-result-clause-times_are : goal.invariant_of-result-clause-times_are
invariant_of-result-clause-times_are c = c.args.answer.times_are ∙ ap (λ (h : Shape). h.times) (sym (c.in_ok-store.ensures.shape ∙ c.shape_of-shape.ensures))

pub invariant_of-result-clause-columns_are : goal.invariant_of-result-clause-columns_are
invariant_of-result-clause-columns_are c = c.args.answer.columns_are ∙ ap (λ (h : Shape). h.times + h.texts) (sym (c.in_ok-store.ensures.shape ∙ c.shape_of-shape.ensures))

pub invariant_of-result-clause-period_is : goal.invariant_of-result-clause-period_is
invariant_of-result-clause-period_is c = to_z_pos w64 c.args.periods.least (omega (arith, small_least c.args.answer.store c.requires.valid c.args.groups.now.lists c.args.periods.least c.requires.least)) ∙ ap pos (sym c.in_ok-store.ensures.period)

pub invariant_of-result-clause-numbered : goal.invariant_of-result-clause-numbered
invariant_of-result-clause-numbered c =
    still_numbered c.args.answer.store c.args.groups.now.lists c.requires.groups c.args.periods c.in_ok-store.store c.in_ok-store.ensures.valid (made_column c.args.answer.store c.in_ok-store.store c.requires.can.column (c.in_ok-store.ensures.shape ∙ c.shape_of-shape.ensures))
    (c.in_ok-store.ensures.shape ∙ c.shape_of-shape.ensures) c.in_ok-store.ensures.holds c.args.answer.domain c.args.answer.numbered

pub returns-clause-store : goal.returns-clause-store
returns-clause-store c = is_canonical c.args.answer.store c.requires.valid c.requires.can.column c.args.groups.now.lists c.requires.groups c.args.periods c.requires.whole c.in_ok-store.store c.in_ok-store.ensures.valid (c.in_ok-store.ensures.shape ∙ c.shape_of-shape.ensures) c.in_ok-store.ensures.period c.in_ok-store.ensures.holds
    (least_period c.args.answer.store c.requires.valid c.requires.can.column c.args.groups.now.lists c.requires.groups c.args.periods.least c.requires.least)
