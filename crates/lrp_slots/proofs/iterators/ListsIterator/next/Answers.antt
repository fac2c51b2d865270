-- The values of the first chain are given, and the other chains are left.
use Rattle.slab.specs.Slab.{get}
use Rattle.lrp_slots.proofs.Entries.{first_held, rest_held}
use Rattle.lrp_slots.proofs.iterators.ListsIterator.next.Goals as goal

pub along-values-requires : goal.along-values-requires
along-values-requires g c = first_held (get c.self.inside.links.now) (c.in_ok-cell.cell, c.in_ok-cell.chain) c.next.new.self c.self.inside.left c.in_ok-cell.ensures.steps c.self.invariant

pub invariant_of-self-2 : goal.invariant_of-self-2
invariant_of-self-2 g c = rest_held (get c.self.inside.links.now) (c.in_ok-cell.cell, c.in_ok-cell.chain) c.next.new.self c.self.inside.left c.in_ok-cell.ensures.steps c.self.invariant
