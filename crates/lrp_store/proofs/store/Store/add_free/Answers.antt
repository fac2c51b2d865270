-- A cell that is held whole is remembered, and to another one the zone without bounds is added.
use Rattle.std.proofs.Common.{◌≡◌, None, Some, IsSome, slice_get, replicate, take, arith, refl, sym, subst}
use Rattle.std.specs.FinMap.{get}
use Rattle.lrp_store.specs.Stores.{StoreView, IsCellOf, tables_at, zone_of}
use Rattle.lrp_store.specs.Growing.{GrowsByAtMost, IsAdded, IsTupleOf}
use Rattle.lrp_store.proofs.Held.{same_tables}
use Rattle.lrp_store.proofs.Added.{free_added}
use Rattle.lrp_store.proofs.Remembered.{appended_remembered, held_is_some, one_remembered, same_remembered}
use Rattle.lrp_store.proofs.Growth.{grows_none, grows_push}
use Rattle.lrp_store.proofs.store.Store.add_free.Goals as goal

pub invariant_of-self : goal.invariant_of-self
invariant_of-self c = record {
  valid = c.self.invariant.valid;
  whole =
      one_remembered c.self.inside.slots.lists c.self.inside.whole c.put.new.self c.args.cell.now c.put.ensures
      (subst (λ (v : StoreView). slice_get (tables_at v c.args.cell.now) 0 ≡ Some (replicate 81 None)) (sym c.self.view_is) (c.is_whole.ensures.first.0 c.if-is_whole.true)) c.self.invariant.whole;
}

pub invariant_of-self-in_err-append : goal.invariant_of-self-in_err-append
invariant_of-self-in_err-append c = record {
  valid = same_tables (record { shape = c.self.inside.shape; period = c.self.inside.period; tables = c.self.inside.slots.lists; spare = c.self.inside.slots.spare }) c.append.new.self.lists c.append.new.self.spare c.self.invariant.valid c.in_err-append.ensures.err;
  whole = same_remembered c.self.inside.slots.lists c.append.new.self.lists c.self.inside.whole c.in_err-append.ensures.err c.self.invariant.whole;
}

pub invariant_of-self-2 : goal.invariant_of-self-2
invariant_of-self-2 c = record {
  valid =
      (free_added (record { shape = c.self.inside.shape; period = c.self.inside.period; tables = c.self.inside.slots.lists; spare = c.self.inside.slots.spare }) c.self.invariant.valid c.args.cell.now (subst (λ (v : StoreView). IsCellOf v.shape v.period c.args.cell.now) (sym c.self.view_is) c.requires.proper)
      c.free.result c.free.ensures c.append.new.self.lists c.in_ok-append.ensures.ok c.args.cap c.append.new.self.spare (omega (arith, c.ranges.cap)) (λ none. absurd (held_is_some (get c.self.inside.slots.lists c.args.cell.now) none (subst (λ (v : StoreView). IsSome (get v.tables c.args.cell.now)) (sym c.self.view_is) c.requires.held)))).grown.valid;
  whole = appended_remembered c.self.inside.slots.lists c.append.new.self.lists c.self.inside.whole c.args.cell.now c.free.result c.in_ok-append.ensures.ok c.self.invariant.whole;
}

pub returns-clause-ok : goal.returns-clause-ok
returns-clause-ok c =
    subst (λ (v : StoreView). IsAdded (IsTupleOf (zone_of v c.args.cell.now (replicate 81 None)) (take v.shape.texts c.args.cell.now.texts)) c.args.cap 0 v (record { shape = c.self.inside.shape; period = c.self.inside.period; tables = c.append.new.self.lists; spare = c.append.new.self.spare })) c.self.view_is
    (free_added (record { shape = c.self.inside.shape; period = c.self.inside.period; tables = c.self.inside.slots.lists; spare = c.self.inside.slots.spare }) c.self.invariant.valid c.args.cell.now (subst (λ (v : StoreView). IsCellOf v.shape v.period c.args.cell.now) (sym c.self.view_is) c.requires.proper)
    c.free.result c.free.ensures c.append.new.self.lists c.in_ok-append.ensures.ok c.args.cap c.append.new.self.spare (omega (arith, c.ranges.cap)) (λ none. absurd (held_is_some (get c.self.inside.slots.lists c.args.cell.now) none (subst (λ (v : StoreView). IsSome (get v.tables c.args.cell.now)) (sym c.self.view_is) c.requires.held))))

pub returns-then-is_whole-clause-one : goal.returns-then-is_whole-clause-one
returns-then-is_whole-clause-one c =
    subst (λ (v : StoreView). GrowsByAtMost 1 c.args.cell.now v (record { shape = c.self.inside.shape; period = c.self.inside.period; tables = c.self.inside.slots.lists; spare = c.self.inside.slots.spare })) c.self.view_is
    (grows_none 1 c.args.cell.now (record { shape = c.self.inside.shape; period = c.self.inside.period; tables = c.self.inside.slots.lists; spare = c.self.inside.slots.spare }) (record { shape = c.self.inside.shape; period = c.self.inside.period; tables = c.self.inside.slots.lists; spare = c.self.inside.slots.spare }) refl)

pub returns-clause-one : goal.returns-clause-one
returns-clause-one c =
    subst (λ (v : StoreView). GrowsByAtMost 1 c.args.cell.now v (record { shape = c.self.inside.shape; period = c.self.inside.period; tables = c.append.new.self.lists; spare = c.append.new.self.spare })) c.self.view_is
    (grows_push c.args.cell.now (record { shape = c.self.inside.shape; period = c.self.inside.period; tables = c.self.inside.slots.lists; spare = c.self.inside.slots.spare }) (record { shape = c.self.inside.shape; period = c.self.inside.period; tables = c.append.new.self.lists; spare = c.append.new.self.spare }) c.free.result c.in_ok-append.ensures.ok)
