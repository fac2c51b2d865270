-- The last step has the parts of the one before it, over the head's columns.
use Rattle.std.proofs.Common.{◌≡◌, ◌-◌, Some, List, Contains, slice_get, sym, subst}
use Rattle.lrp_store.specs.Stores.{HasReach}
use Rattle.lrp_tables.specs.declared.table.Table.{Table}
use Rattle.lrp_eval.proofs.EndLaws.{can_stand_over, last_held}
use Rattle.lrp_eval.proofs.endings.headed.Goals as goal

pub over_head-requires-clause-can : goal.over_head-requires-clause-can
over_head-requires-clause-can c = can_stand_over c.requires.group c.requires.made c.requires.step c.args.parts c.requires.parts c.requires.place

pub returns : goal.returns
returns c = last_held c.requires.group c.requires.made c.requires.step c.args.parts c.requires.parts c.requires.place c.in_ok-last_parts.last_parts c.in_ok-last_parts.ensures c.requires.few
    c.at-last.result.now (subst (λ n. slice_get c.args.group.now.plan.now.steps (n - 1) ≡ Some c.at-last.result.now) c.len.ensures c.at-last.ensures)
    (λ part k. subst (λ r. HasReach part.store r) c.unsigned_abs.ensures.value (c.have_reach.ensures c.if-not-have_reach.false part (subst (λ (ps : List Table). Contains ps part) (sym c.as_slice.ensures) k)))
