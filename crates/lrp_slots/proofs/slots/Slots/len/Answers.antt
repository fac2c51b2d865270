use Rattle.std.proofs.Common.{◌∙◌, ap, sym}
use Rattle.std.specs.FinMap as finite
use Rattle.slab.specs.Slab.{get}
use Rattle.lrp_slots.proofs.Tables.{len-lists_of}
use Rattle.lrp_slots.proofs.slots.Slots.len.Goals as goal

pub returns : goal.returns
returns g c = c.len.ensures.len ∙ sym (len-lists_of (get c.self.inside.links) c.self.inside.chains c.self.invariant.ascending) ∙ ap (λ s. finite.len s.lists) c.self.view_is
