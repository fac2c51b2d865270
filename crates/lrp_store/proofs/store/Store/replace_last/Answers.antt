-- The list with other bounds at its end is that of a store.
use Rattle.std.proofs.Common.{◌≢◌, None, Some, IsSome, replicate, slice_get, sym, subst}
use Rattle.std.specs.FinMap.{get}
use Rattle.lrp_store.specs.Stores.{StoreView, tables_at}
use Rattle.lrp_store.proofs.LastJoined.{held_replaced}
use Rattle.lrp_store.proofs.Remembered.{replaced_remembered}
use Rattle.lrp_store.proofs.store.Store.replace_last.Goals as goal

pub replace_last-requires : goal.replace_last-requires
replace_last-requires c = subst (λ (v : StoreView). IsSome (get v.tables c.args.cell.now)) (sym c.self.view_is) c.requires.held

pub invariant_of-self : goal.invariant_of-self
invariant_of-self c = record {
  valid = held_replaced (record { shape = c.self.inside.shape; period = c.self.inside.period; tables = c.self.inside.slots.lists; spare = c.self.inside.slots.spare }) c.args.self.now c.self.view_is c.self.invariant.valid c.args.cell.now c.args.bounds c.requires.held c.requires.zone c.replace_last.new.self.lists c.replace_last.ensures.lists c.replace_last.new.self.spare;
  whole =
      replaced_remembered c.self.inside.slots.lists c.replace_last.new.self.lists c.self.inside.whole c.args.cell.now c.args.bounds c.replace_last.ensures.lists
      (subst (λ (v : StoreView). slice_get (tables_at v c.args.cell.now) 0 ≢ Some (replicate 81 None)) (sym c.self.view_is) c.requires.first) c.self.invariant.whole;
}

pub returns-clause-valid : goal.returns-clause-valid
returns-clause-valid c = (invariant_of-self c).valid
