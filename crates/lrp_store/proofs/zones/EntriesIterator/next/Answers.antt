-- One cell is given with its zones, and the others are left.
use Rattle.lrp_store.proofs.EntriesRead.{first_entry, rest_entries}
use Rattle.lrp_store.proofs.zones.EntriesIterator.next.Goals as goal

pub invariant_of-zones : goal.invariant_of-zones
invariant_of-zones c = first_entry c.self.inside.period c.self.inside.times c.in_ok-cell.cell c.in_ok-cell.left c.next.new.self c.self.inside.left c.in_ok-cell.ensures.steps c.self.invariant

pub invariant_of-self-2 : goal.invariant_of-self-2
invariant_of-self-2 c = rest_entries c.self.inside.period c.self.inside.times c.in_ok-cell.cell c.in_ok-cell.left c.next.new.self c.self.inside.left c.in_ok-cell.ensures.steps c.self.invariant
