-- A cell that is begun is held whole.
use Rattle.std.proofs.Common.{◌≡◌, ◌<◌, None, Ok, replicate, take, arith, sym, ap, subst}
use Rattle.std.specs.FinMap.{get, len}
use Rattle.lrp_store.specs.Stores.{StoreView, IsCellOf, zone_of}
use Rattle.lrp_store.specs.Growing.{GrowsByAtMost, IsAdded, IsTupleOf}
use Rattle.lrp_store.proofs.Held.{same_tables}
use Rattle.lrp_store.proofs.Added.{free_added}
use Rattle.lrp_store.proofs.Remembered.{appended_remembered, begun_as, begun_first, one_remembered, same_remembered}
use Rattle.lrp_store.proofs.Growth.{grows_begun, grows_none}
use Rattle.lrp_store.proofs.store.Store.begin_whole.Goals as goal

pub invariant_of-self : goal.invariant_of-self
invariant_of-self c = record {
  valid = same_tables (record { shape = c.self.inside.shape; period = c.self.inside.period; tables = c.self.inside.slots.lists; spare = c.self.inside.slots.spare }) c.begin.new.self.lists c.begin.new.self.spare c.self.invariant.valid (c.in_err-begin.ensures.left (λ e. cc));
  whole = same_remembered c.self.inside.slots.lists c.begin.new.self.lists c.self.inside.whole (c.in_err-begin.ensures.left (λ e. cc)) c.self.invariant.whole;
}

pub invariant_of-self-then-branch : goal.invariant_of-self-then-branch
invariant_of-self-then-branch c = record {
  valid =
      (free_added (record { shape = c.self.inside.shape; period = c.self.inside.period; tables = c.self.inside.slots.lists; spare = c.self.inside.slots.spare }) c.self.invariant.valid c.args.cell.now (subst (λ (v : StoreView). IsCellOf v.shape v.period c.args.cell.now) (sym c.self.view_is) c.requires.proper)
      c.free.result c.free.ensures c.begin.new.self.lists (begun_as c.self.inside.slots.lists c.begin.new.self.lists c.args.cell.now c.free.result (c.in_ok-begin.ensures.put (ap (λ b. Ok b) c.if-branch.true)) (c.in_ok-begin.ensures.absent (ap (λ b. Ok b) c.if-branch.true))) c.args.cap c.begin.new.self.spare (omega (arith, c.ranges.cap)) (subst (λ (v : StoreView). get v.tables c.args.cell.now ≡ None → len v.tables < c.args.cap) (sym c.self.view_is) c.requires.room)).grown.valid;
  whole =
      one_remembered c.begin.new.self.lists c.self.inside.whole c.follow.new.whole c.args.cell.now c.follow.ensures
      (begun_first c.self.inside.slots.lists c.begin.new.self.lists c.args.cell.now c.free.result (c.in_ok-begin.ensures.put (ap (λ b. Ok b) c.if-branch.true)) c.free.ensures)
      (appended_remembered c.self.inside.slots.lists c.begin.new.self.lists c.self.inside.whole c.args.cell.now c.free.result (begun_as c.self.inside.slots.lists c.begin.new.self.lists c.args.cell.now c.free.result (c.in_ok-begin.ensures.put (ap (λ b. Ok b) c.if-branch.true)) (c.in_ok-begin.ensures.absent (ap (λ b. Ok b) c.if-branch.true))) c.self.invariant.whole);
}

pub returns-then-branch-clause-begun : goal.returns-then-branch-clause-begun
returns-then-branch-clause-begun c = λ _.
    subst (λ (v : StoreView). IsAdded (IsTupleOf (zone_of v c.args.cell.now (replicate 81 None)) (take v.shape.texts c.args.cell.now.texts)) c.args.cap 0 v (record { shape = c.self.inside.shape; period = c.self.inside.period; tables = c.begin.new.self.lists; spare = c.begin.new.self.spare })) c.self.view_is
    (free_added (record { shape = c.self.inside.shape; period = c.self.inside.period; tables = c.self.inside.slots.lists; spare = c.self.inside.slots.spare }) c.self.invariant.valid c.args.cell.now (subst (λ (v : StoreView). IsCellOf v.shape v.period c.args.cell.now) (sym c.self.view_is) c.requires.proper)
    c.free.result c.free.ensures c.begin.new.self.lists (begun_as c.self.inside.slots.lists c.begin.new.self.lists c.args.cell.now c.free.result (c.in_ok-begin.ensures.put (ap (λ b. Ok b) c.if-branch.true)) (c.in_ok-begin.ensures.absent (ap (λ b. Ok b) c.if-branch.true))) c.args.cap c.begin.new.self.spare (omega (arith, c.ranges.cap)) (subst (λ (v : StoreView). get v.tables c.args.cell.now ≡ None → len v.tables < c.args.cap) (sym c.self.view_is) c.requires.room))

pub invariant_of-self-else-branch : goal.invariant_of-self-else-branch
invariant_of-self-else-branch c =
    let held = c.if-branch.false in
    record {
      valid = same_tables (record { shape = c.self.inside.shape; period = c.self.inside.period; tables = c.self.inside.slots.lists; spare = c.self.inside.slots.spare }) c.begin.new.self.lists c.begin.new.self.spare c.self.invariant.valid (c.in_ok-begin.ensures.left (λ e. cc (e, held)));
      whole = same_remembered c.self.inside.slots.lists c.begin.new.self.lists c.self.inside.whole (c.in_ok-begin.ensures.left (λ e. cc (e, held))) c.self.invariant.whole;
    }

pub returns-then-branch-clause-one : goal.returns-then-branch-clause-one
returns-then-branch-clause-one c =
    subst (λ (v : StoreView). GrowsByAtMost 1 c.args.cell.now v (record { shape = c.self.inside.shape; period = c.self.inside.period; tables = c.begin.new.self.lists; spare = c.begin.new.self.spare })) c.self.view_is
    (grows_begun c.args.cell.now (record { shape = c.self.inside.shape; period = c.self.inside.period; tables = c.self.inside.slots.lists; spare = c.self.inside.slots.spare }) (record { shape = c.self.inside.shape; period = c.self.inside.period; tables = c.begin.new.self.lists; spare = c.begin.new.self.spare }) c.free.result (c.in_ok-begin.ensures.put (ap (λ b. Ok b) c.if-branch.true)))

pub returns-clause-one : goal.returns-clause-one
returns-clause-one c =
    let held = c.if-branch.false in
    subst (λ (v : StoreView). GrowsByAtMost 1 c.args.cell.now v (record { shape = c.self.inside.shape; period = c.self.inside.period; tables = c.begin.new.self.lists; spare = c.begin.new.self.spare })) c.self.view_is
    (grows_none 1 c.args.cell.now (record { shape = c.self.inside.shape; period = c.self.inside.period; tables = c.self.inside.slots.lists; spare = c.self.inside.slots.spare }) (record { shape = c.self.inside.shape; period = c.self.inside.period; tables = c.begin.new.self.lists; spare = c.begin.new.self.spare }) (c.in_ok-begin.ensures.left (λ e. cc (e, held))))
