-- The bounds of a zone are small, and no bounds are no entries.
use Rattle.std.proofs.Common.{◌∙◌}
use Rattle.lrp_store.proofs.Looser.{free_list}
use Rattle.lrp_store.proofs.Written.{zone_small}
use Rattle.lrp_store.proofs.stored.StoredBounds.are_looser.Goals as goal

pub are_above-requires-clause-small : goal.are_above-requires-clause-small
are_above-requires-clause-small c = zone_small c.args.zone.now.period c.args.zone.now.residues c.args.self.now c.self.inside.entries.items c.as_slice.result.now c.as_slice.ensures c.self.invariant c.self.view_is c.requires

pub returns-clause-free : goal.returns-clause-free
returns-clause-free c = λ free. c.are_above.ensures.none (c.as_slice.ensures ∙ free_list c.self.inside.entries.items c.self.invariant (c.self.view_is ∙ free))
