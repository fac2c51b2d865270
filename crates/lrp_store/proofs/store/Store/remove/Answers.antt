-- The list without one zone is that of a store.
use Rattle.lrp_store.proofs.Held.{taken_out, zone_there, zone_seen}
use Rattle.lrp_store.proofs.Remembered.{none_remembered}
use Rattle.lrp_store.proofs.store.Store.remove.Goals as goal

pub zone-requires : goal.zone-requires
zone-requires c = zone_there (record { shape = c.self.inside.shape; period = c.self.inside.period; tables = c.self.inside.slots.lists; spare = c.self.inside.slots.spare }) c.self.invariant.valid c.args.cell.now c.args.i c.from-times.result c.in_ok-bounds.bounds c.in_ok-bounds.ensures.value c.from-times.ensures

pub invariant_of-self-2 : goal.invariant_of-self-2
invariant_of-self-2 c = record { valid = taken_out (record { shape = c.self.inside.shape; period = c.self.inside.period; tables = c.self.inside.slots.lists; spare = c.self.inside.slots.spare }) c.self.invariant.valid c.args.cell.now c.args.i c.remove.new.self.spare c.in_ok-bounds.bounds c.in_ok-bounds.ensures.value c.remove.new.self.lists c.in_ok-bounds.ensures.lists; whole = none_remembered c.remove.new.self.lists c.new.result c.new.ensures }

pub returns-clause-value : goal.returns-clause-value
returns-clause-value c = zone_seen (record { shape = c.self.inside.shape; period = c.self.inside.period; tables = c.self.inside.slots.lists; spare = c.self.inside.slots.spare }) c.args.self.now c.self.view_is c.args.cell.now c.args.i c.from-times.result c.in_ok-bounds.bounds c.zone.result c.in_ok-bounds.ensures.value c.from-times.ensures c.zone.ensures
