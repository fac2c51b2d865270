-- One zone more is read.
use Rattle.std.proofs.Common.{subst}
use Rattle.lrp_store.specs.Stores.{IsStore}
use Rattle.lrp_store.proofs.Aligning.{zone_read, zone_valid, head_in, tail_in}
use Rattle.lrp_store.proofs.ZonesRead.{one_read, all_read}
use Rattle.lrp_store.proofs.store.Store.zones_in.Goals as goal

pub zone-zone-requires : goal.zone-zone-requires
zone-zone-requires c = zone_valid (record { shape = c.self.inside.shape; period = c.self.inside.period; tables = c.self.inside.slots.lists; spare = c.self.inside.slots.spare }) c.args.self.now c.self.view_is (subst IsStore c.self.view_is c.self.invariant.valid) c.args.cell.now c.in-Some.bounds.now c.from-times.result (c.loop-bounds.invariant.within c.in-Some.bounds.now (head_in c.in-Some.bounds.now c.next.new.self c.loop-bounds.bounds-iterator c.in-Some.ensures.steps)) c.from-times.ensures

pub loop-bounds-preserved : goal.loop-bounds-preserved
loop-bounds-preserved c = record {
  within = λ u h. c.loop-bounds.invariant.within u (tail_in c.in-Some.bounds.now c.next.new.self c.loop-bounds.bounds-iterator c.in-Some.ensures.steps u h);
  read = one_read c.args.self.now c.args.cell.now c.in-Some.bounds.now c.next.new.self c.loop-bounds.bounds-iterator c.loop-bounds.made _ _ c.zone-zone.result c.in-Some.ensures.steps
      (zone_read (record { shape = c.self.inside.shape; period = c.self.inside.period; tables = c.self.inside.slots.lists; spare = c.self.inside.slots.spare }) c.args.self.now c.self.view_is c.args.cell.now c.in-Some.bounds.now c.from-times.result c.zone-zone.result c.from-times.ensures c.zone-zone.ensures)
      c.in_ok-push.ensures.ok c.loop-bounds.invariant.read;
}

pub returns : goal.returns
returns c = all_read c.args.self.now c.args.cell.now c.loop-bounds.bounds-iterator c.loop-bounds.made _ c.in-None.ensures.steps.0 c.loop-bounds.invariant.read
