-- The list with one zone more is that of a store.
use Rattle.std.proofs.Common.{◌^◌, ◌-◌, arith}
use Rattle.lrp_store.proofs.Held.{same_tables, appended}
use Rattle.lrp_store.proofs.Added.{room_left}
use Rattle.lrp_store.proofs.Remembered.{same_remembered, appended_remembered}
use Rattle.lrp_store.proofs.store.Store.put.Goals as goal

pub invariant_of-self : goal.invariant_of-self
invariant_of-self c = record {
  valid = same_tables (record { shape = c.self.inside.shape; period = c.self.inside.period; tables = c.self.inside.slots.lists; spare = c.self.inside.slots.spare }) c.append.new.self.lists c.append.new.self.spare c.self.invariant.valid c.in_err-append.ensures.err;
  whole = same_remembered c.self.inside.slots.lists c.append.new.self.lists c.self.inside.whole c.in_err-append.ensures.err c.self.invariant.whole;
}

pub invariant_of-self-2 : goal.invariant_of-self-2
invariant_of-self-2 c = record {
  valid =
      appended (record { shape = c.self.inside.shape; period = c.self.inside.period; tables = c.self.inside.slots.lists; spare = c.self.inside.slots.spare }) c.args.self.now c.self.view_is c.self.invariant.valid c.args.cell.now c.args.zone.now c.of.ensures.valid c.requires.period c.requires.residues c.requires.texts c.requires.times
      c.in_ok-bounds.bounds c.in_ok-bounds.ensures.ok c.append.new.self.lists c.in_ok-append.ensures.ok (2 ^ 32 - 1) c.append.new.self.spare (omega arith)
      (room_left (record { shape = c.self.inside.shape; period = c.self.inside.period; tables = c.self.inside.slots.lists; spare = c.self.inside.slots.spare }) c.args.self.now c.self.view_is c.args.cell.now (2 ^ 32 - 1) c.is_one_too_many.result c.is_one_too_many.ensures.many c.if-is_one_too_many.false);
  whole = appended_remembered c.self.inside.slots.lists c.append.new.self.lists c.self.inside.whole c.args.cell.now c.in_ok-bounds.bounds c.in_ok-append.ensures.ok c.self.invariant.whole;
}

pub returns-in_err-append-clause-valid : goal.returns-in_err-append-clause-valid
returns-in_err-append-clause-valid c = (invariant_of-self c).valid

pub returns-clause-valid : goal.returns-clause-valid
returns-clause-valid c = (invariant_of-self-2 c).valid
