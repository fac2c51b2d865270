-- The zones of all cells are left.
use Rattle.std.proofs.Common.{subst}
use Rattle.lrp_store.specs.Stores.{IsStore}
use Rattle.lrp_store.proofs.EntriesRead.{all_valid, all_read}
use Rattle.lrp_store.proofs.store.Store.entries.Goals as goal

pub invariant_of-result : goal.invariant_of-result
invariant_of-result c = all_valid (record { shape = c.self.inside.shape; period = c.self.inside.period; tables = c.self.inside.slots.lists; spare = c.self.inside.slots.spare }) c.args.self.now c.self.view_is (subst IsStore c.self.view_is c.self.invariant.valid) c.from.result c.from.ensures c.lists.result c.lists.ensures.found

pub returns-clause-value : goal.returns-clause-value
returns-clause-value c = all_read (record { shape = c.self.inside.shape; period = c.self.inside.period; tables = c.self.inside.slots.lists; spare = c.self.inside.slots.spare }) c.args.self.now c.self.view_is (subst IsStore c.self.view_is c.self.invariant.valid) c.from.result c.from.ensures c.lists.result c.lists.ensures.entries c.lists.ensures.found
