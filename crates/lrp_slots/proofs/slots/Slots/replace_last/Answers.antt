-- The last slot of the chain has the other value.
use Rattle.std.proofs.Common.{◌∙◌, Some, ap, sym, arith}
use Rattle.std.specs.FinMap as finite
use Rattle.lrp_slots.specs.Lists.{list_at, with_last}
use Rattle.lrp_slots.proofs.Linked.{last_is_held, not_held}
use Rattle.lrp_slots.proofs.Replaced.{linked_after_set, lists_after_set}
use Rattle.lrp_slots.proofs.slots.Slots.replace_last.Goals as goal

pub set_value-requires : goal.set_value-requires
set_value-requires g c = last_is_held c.self.inside.links c.self.inside.chains c.self.invariant c.args.cell.now (Some c.in-Some.chain.now) c.in-Some.ensures.value

pub invariant_of-self : goal.invariant_of-self
invariant_of-self g c = linked_after_set c.self.inside.links c.set_value.new.links c.self.inside.chains c.args.cell.now c.in-Some.chain.now c.args.value c.self.invariant (sym c.in-Some.ensures.value) c.set_value.ensures

pub returns-clause-lists : goal.returns-clause-lists
returns-clause-lists g c =
    lists_after_set c.self.inside.links c.set_value.new.links c.self.inside.chains c.args.cell.now c.in-Some.chain.now c.args.value c.self.invariant (sym c.in-Some.ensures.value) c.set_value.ensures
    ∙ ap (λ s. finite.insert s.lists c.args.cell.now (with_last (list_at s.lists c.args.cell.now) c.args.value)) c.self.view_is

pub returns-clause-spare : goal.returns-clause-spare
returns-clause-spare g c =
    let was = ap (λ s. s.spare) c.self.view_is in
    omega (arith, was, c.set_value.ensures.len, c.set_value.ensures.capacity)

pub unreachable-requires : goal.unreachable-requires
unreachable-requires g c = absurd (not_held c.self.inside.links c.self.inside.chains c.args.self.now.lists c.args.cell.now (ap (λ s. s.lists) c.self.view_is) (sym c.in-None.ensures.value) c.requires)
