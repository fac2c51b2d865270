-- A tight bound is within the limit.
use Rattle.std.proofs.Common.{None, get_or, ap, ◌∙◌}
use Rattle.lrp_store.proofs.Listed.{place_small}
use Rattle.lrp_store.proofs.stored.bound_of.Goals as goal

pub returns-clause-small : goal.returns-clause-small
returns-clause-small c = place_small c.args.zone.now c.bounds.ensures.valid c.args.place _ c.requires (c.get.ensures.value ∙ ap (λ t. get_or t c.from.result None) c.bounds.ensures.value ∙ ap (λ p. get_or c.args.zone.now.bounds p None) c.from.ensures)
