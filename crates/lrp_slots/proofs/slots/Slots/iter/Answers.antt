use Rattle.std.proofs.Common.{◌∙◌, ap, sym, refl}
use Rattle.slab.specs.Slab.{get}
use Rattle.lrp_slots.specs.Lists.{list_at}
use Rattle.lrp_slots.specs.Links.{list_of}
use Rattle.lrp_slots.proofs.Linked.{chain_is_held, list_before}
use Rattle.lrp_slots.proofs.slots.Slots.iter.Goals as goal

pub along-requires : goal.along-requires
along-requires g c = chain_is_held c.self.inside.links c.self.inside.chains c.self.invariant c.args.cell.now c.copied.result (c.copied.ensures ∙ c.get.ensures.value)

pub returns : goal.returns
returns g c =
    c.along.ensures ∙ ap (list_of (get c.self.inside.links)) (c.copied.ensures ∙ c.get.ensures.value)
    ∙ sym (list_before c.self.inside.links c.self.inside.chains c.args.cell.now _ refl) ∙ ap (λ s. list_at s.lists c.args.cell.now) c.self.view_is
