-- The zones of the cell are left.
use Rattle.std.proofs.Common.{rules, ◌≡◌, length, subst}
use Rattle.lrp_store.specs.Stores.{IsStore}
use Rattle.lrp_store.proofs.EntriesRead.{cell_valid, cell_read}
use Rattle.lrp_store.proofs.store.Store.zones_of.Goals as goal

pub invariant_of-result : goal.invariant_of-result
invariant_of-result c =
    let size : length c.args.cell.now.residues ≡ 8 = search rules in
    cell_valid (record { shape = c.self.inside.shape; period = c.self.inside.period; tables = c.self.inside.slots.lists; spare = c.self.inside.slots.spare }) c.args.self.now c.self.view_is (subst IsStore c.self.view_is c.self.invariant.valid) c.from.result c.from.ensures c.args.cell.now c.iter.result c.iter.ensures size

pub returns : goal.returns
returns c = cell_read (record { shape = c.self.inside.shape; period = c.self.inside.period; tables = c.self.inside.slots.lists; spare = c.self.inside.slots.spare }) c.args.self.now c.self.view_is (subst IsStore c.self.view_is c.self.invariant.valid) c.from.result c.from.ensures c.args.cell.now c.iter.result c.iter.ensures
