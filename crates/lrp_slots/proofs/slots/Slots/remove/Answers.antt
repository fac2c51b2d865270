use Rattle.std.proofs.Common.{◌∙◌, sym, ap, arith}
use Rattle.std.specs.Prelude.{slice_get}
use Rattle.std.specs.List.{remove}
use Rattle.std.proofs.lemmas.Option.{slice_get_past}
use Rattle.slab.specs.Slab.{get}
use Rattle.lrp_slots.specs.Lists.{list_at, set_list}
use Rattle.lrp_slots.proofs.Tables.{list_absent}
use Rattle.lrp_slots.proofs.Linked.{length_at}
use Rattle.lrp_slots.proofs.Unlinked.{Removal, linked_after_remove, value_removed, lists_after_remove}
use Rattle.lrp_slots.proofs.slots.Slots.remove.Goals as goal

pub returns-in_err-chain-clause-value : goal.returns-in_err-chain-clause-value
returns-in_err-chain-clause-value g c =
    c.from_residual.ensures ∙ ap (λ xs. slice_get xs c.args.i) (sym (list_absent (get c.self.inside.links) c.self.inside.chains c.args.cell.now (sym c.in_err-chain.ensures.value)))
    ∙ ap (λ s. slice_get (list_at s.lists c.args.cell.now) c.args.i) c.self.view_is

pub returns-then-i-chain-clause-value : goal.returns-then-i-chain-clause-value
returns-then-i-chain-clause-value g c =
    let many = length_at c.self.inside.links c.self.inside.chains c.self.invariant c.args.cell.now c.in_ok-chain.field-0.now (sym c.in_ok-chain.ensures.value) in
    sym (slice_get_past _ c.args.i (omega (arith, many, c.if-i-chain.true))) ∙ ap (λ s. slice_get (list_at s.lists c.args.cell.now) c.args.i) c.self.view_is

pub take_out-value-requires-clause-whole : goal.take_out-value-requires-clause-whole
take_out-value-requires-clause-whole g c = c.self.invariant.whole c.args.cell.now c.in_ok-chain.field-0.now (sym c.in_ok-chain.ensures.value)

removal : (g : _) (c : goal.After-keep_rest g)
    → Removal c.self.inside.links c.take_out-value.new.links c.self.inside.chains c.keep_rest.new.chains c.args.cell.now c.in_ok-chain.field-0.now c.args.i c.take_out-value.result.0 c.take_out-value.result.1
removal g c = record {
  linked = c.self.invariant;
  held = sym c.in_ok-chain.ensures.value;
  taken = c.take_out-value.ensures;
  updates = c.keep_rest.ensures.updates;
  total = c.keep_rest.ensures.total c.in_ok-chain.field-0.now (sym c.in_ok-chain.ensures.value);
  ascending = c.keep_rest.ensures.ordered;
}

pub invariant_of-self : goal.invariant_of-self
invariant_of-self g c = linked_after_remove _ _ _ _ _ _ _ _ _ (removal g c)

pub returns-clause-value : goal.returns-clause-value
returns-clause-value g c =
    sym (value_removed _ _ _ _ _ _ _ _ _ (removal g c)) ∙ ap (λ s. slice_get (list_at s.lists c.args.cell.now) c.args.i) c.self.view_is

pub returns-clause-lists : goal.returns-clause-lists
returns-clause-lists g c =
    lists_after_remove _ _ _ _ _ _ _ _ _ (removal g c) ∙ ap (λ s. set_list s.lists c.args.cell.now (remove (list_at s.lists c.args.cell.now) c.args.i)) c.self.view_is

pub returns-clause-spare : goal.returns-clause-spare
returns-clause-spare g c =
    let was = ap (λ s. s.spare) c.self.view_is in
    omega (arith, was, c.take_out-value.ensures.len, c.take_out-value.ensures.room, c.take_out-value.ensures.capacity)
