-- One zone is given, and the others are left.
use Rattle.lrp_store.proofs.EntriesRead.{first_valid, rest_valid}
use Rattle.lrp_store.proofs.zones.ZonesIterator.next.Goals as goal

pub zone-requires : goal.zone-requires
zone-requires c = first_valid c.self.inside.period c.self.inside.times c.self.inside.residues c.in_ok-bounds.bounds.now c.next.new.self c.self.inside.left c.in_ok-bounds.ensures.steps c.self.invariant

pub invariant_of-self-2 : goal.invariant_of-self-2
invariant_of-self-2 c = rest_valid c.self.inside.period c.self.inside.times c.self.inside.residues c.in_ok-bounds.bounds.now c.next.new.self c.self.inside.left c.in_ok-bounds.ensures.steps c.self.invariant
