use Rattle.std.proofs.Common.{◌∙◌, ap, sym, length}
use Rattle.std.specs.Prelude.{sum_by}
use Rattle.std.specs.FinMap as finite
use Rattle.lrp_slots.proofs.Linked.{values_counted}
use Rattle.lrp_slots.proofs.slots.Slots.values.Goals as goal

pub returns : goal.returns
returns g c =
    c.len.ensures ∙ sym (values_counted c.self.inside.links c.self.inside.chains c.self.invariant) ∙ ap (λ s. sum_by (λ xs. length xs) (finite.values s.lists)) c.self.view_is
