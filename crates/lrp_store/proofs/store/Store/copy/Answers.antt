-- Equal tables are those of a store.
use Rattle.lrp_store.proofs.Held.{same_tables}
use Rattle.lrp_store.proofs.Remembered.{none_remembered}
use Rattle.lrp_store.proofs.store.Store.copy.Goals as goal

pub invariant_of-result : goal.invariant_of-result
invariant_of-result c = record { valid = same_tables (record { shape = c.self.inside.shape; period = c.self.inside.period; tables = c.self.inside.slots.lists; spare = c.self.inside.slots.spare }) c.in_ok-copy.field-0.lists c.in_ok-copy.field-0.spare c.self.invariant.valid c.in_ok-copy.ensures; whole = none_remembered c.in_ok-copy.field-0.lists c.new.result c.new.ensures }
