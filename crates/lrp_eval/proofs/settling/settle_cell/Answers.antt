-- With one column zone by zone, and else as a list.
use Rattle.std.proofs.Common.{◌≡◌, ◌<◌, List, ap, length, sym, subst, arith}
use Rattle.std.specs.Prelude.{pos, Contains}
use Rattle.lrp_model.specs.declared.tuples.Shape.{Shape}
use Rattle.lrp_zone.specs.Zones.{ZoneView}
use Rattle.lrp_store.specs.Stores.{IsPadded}
use Rattle.lrp_cutting.specs.Differences.{AreOfCell}
use Rattle.lrp_cutting.specs.Settling.{AddsZones, IsSettlement, SettlesCell}
use Rattle.lrp_cutting.proofs.Lists.{on_ok}
use Rattle.lrp_eval.proofs.SettleLaws.{cell_of, one_cell, proper_cell}
use Rattle.lrp_eval.proofs.StandingLaws.{line_room}
use Rattle.lrp_eval.proofs.settling.settle_cell.Goals as goal

pub settle_line-requires-clause-column : goal.settle_line-requires-clause-column
settle_line-requires-clause-column c = let value : c.shape.result.times ≡ c.args.store.now.shape.times = ap (λ q. q.times) c.shape.ensures.value in omega (arith, value, c.if-shape-eq1.true)

pub settle_line-requires-clause-reach : goal.settle_line-requires-clause-reach
settle_line-requires-clause-reach c =
    let value : c.shape.result.times ≡ c.args.store.now.shape.times = ap (λ q. q.times) c.shape.ensures.value in
    line_room c.args.store.now c.shape.ensures.valid (omega (arith, value, c.if-shape-eq1.true)) c.requires.room c.args.cell.now

pub settle-requires : goal.settle-requires
settle-requires c = record {
  some = subst (λ (zs : List ZoneView). 0 < length zs) (sym c.in_ok-zones.ensures) c.requires.some;
  cell = λ z k. subst (λ (zs : List ZoneView). AreOfCell z zs) (sym c.in_ok-zones.ensures) (one_cell c.args.store.now c.args.cell.now z (subst (λ (zs : List ZoneView). Contains zs z) c.in_ok-zones.ensures k));
  reach = λ z k. c.requires.room c.args.cell.now z (subst (λ (zs : List ZoneView). Contains zs z) c.in_ok-zones.ensures k);
}

pub add_all-requires : goal.add_all-requires
add_all-requires c =
    let p = proper_cell c.args.store.now c.shape.ensures.valid c.args.cell.now c.requires.some in
    let some : 0 < length c.in_ok-zones.zones = subst (λ (zs : List ZoneView). 0 < length zs) (sym c.in_ok-zones.ensures) c.requires.some in
    let of = cell_of c.args.store.now c.args.made.now c.args.cell.now c.in_ok-zones.zones c.in_ok-zones-2.zones c.requires.like c.in_ok-zones.ensures some c.in_ok-zones-2.ensures in
    record {
      texts = subst (λ (s : Shape). IsPadded 0 s.texts c.args.cell.now.texts) (sym c.requires.like.shape) p.texts;
      times = subst (λ (s : Shape). IsPadded (pos 0) s.times c.args.cell.now.residues) (sym c.requires.like.shape) p.residues;
      periods = λ z k. (of z (subst (λ (zs : List ZoneView). Contains zs z) c.as_slice.ensures k)).0;
      residues = λ z k. (of z (subst (λ (zs : List ZoneView). Contains zs z) c.as_slice.ensures k)).1;
    }

pub returns : goal.returns
returns c = on_ok (AddsZones c.args.cell.now c.as_slice.result.now c.args.made.now c.add_all.new.store) (SettlesCell c.args.cell.now c.args.store.now c.args.made.now c.add_all.new.store) c.add_all.result
    (λ a. record {
      made = c.in_ok-zones-2.zones;
      adds = subst (λ (zs : List ZoneView). AddsZones c.args.cell.now zs c.args.made.now c.add_all.new.store) c.as_slice.ensures a;
      settled = λ z k. subst (λ (zs : List ZoneView). IsSettlement z zs c.in_ok-zones-2.zones) c.in_ok-zones.ensures (c.in_ok-zones-2.ensures z (subst (λ (zs : List ZoneView). Contains zs z) (sym c.in_ok-zones.ensures) k));
    })
    c.add_all.ensures
