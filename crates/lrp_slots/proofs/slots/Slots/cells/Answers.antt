use Rattle.std.proofs.Common.{◌∙◌, ap, sym}
use Rattle.std.specs.FinMap as finite
use Rattle.std.specs.Map.{keys_of}
use Rattle.slab.specs.Slab.{get}
use Rattle.lrp_slots.proofs.Tables.{keys-lists_of}
use Rattle.lrp_slots.proofs.Linked.{filled}
use Rattle.lrp_slots.proofs.slots.Slots.cells.Goals as goal

pub returns-clause-cells : goal.returns-clause-cells
returns-clause-cells g c = ap keys_of c.iter.ensures.rest ∙ sym (keys-lists_of (get c.self.inside.links) c.self.inside.chains c.self.invariant.ascending) ∙ ap (λ s. finite.keys s.lists) c.self.view_is

pub returns-clause-filled : goal.returns-clause-filled
returns-clause-filled g c = filled c.self.inside.links c.self.inside.chains c.self.invariant c.args.self.now.lists (ap (λ s. s.lists) c.self.view_is)
