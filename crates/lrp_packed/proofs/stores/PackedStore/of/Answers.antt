-- Each zone of the store is packed, and its first spot.
use Rattle.std.proofs.Common.{◌∙◌, ap, of_z, subst, sym, to_z}
use Rattle.std.specs.Int.{w64}
use Rattle.std.specs.Prelude.{nat_abs}
use Rattle.lrp_packed.specs.Entries.{IsFullSize}
use Rattle.lrp_packed.specs.Leading.{IsFirstSpot}
use Rattle.lrp_packed.specs.Packed.{store_of}
use Rattle.lrp_tables.specs.Pieces.{ArePieces}
use Rattle.lrp_packed.proofs.Leading.{first_again, first_found}
use Rattle.lrp_packed.proofs.Unpacked.{packed_can, packed_same, packing_more, packing_none, period_word, sizes_of}
use Rattle.lrp_packed.proofs.stores.PackedStore.of.Goals as goal

pub first-requires : goal.first-requires
first-requires c = c.requires

pub loop-piece-init : goal.loop-piece-init
loop-piece-init c = packing_none c.args.store.now _ _ c.in_ok-zones.ensures.items (subst (λ l. ArePieces c.args.store.now l) (sym c.into_iter-piece-iterator.ensures.into_iter_gives) c.of-piece-items.ensures)

pub of-requires : goal.of-requires
of-requires c = subst (λ t. IsFullSize c.in-Some.piece.cell t) (sym c.bounds.ensures.value) (sizes_of c.args.store.now c.shape-shape.ensures.valid c.loop-piece.piece-iterator c.next.new.self c.in-Some.piece c.loop-piece.zones.items c.in-Some.ensures.steps c.loop-piece.invariant)

pub loop-piece-preserved : goal.loop-piece-preserved
loop-piece-preserved c =
    packing_more c.args.store.now c.loop-piece.piece-iterator c.next.new.self c.in-Some.piece c.in_ok-of.field-0 c.loop-piece.zones.items c.push.new.self.items c.in-Some.ensures.steps
    (c.in_ok-of.ensures ∙ ap (λ t. (c.in-Some.piece.cell, t)) c.bounds.ensures.value) c.in_ok-push.ensures.ok c.loop-piece.invariant

pub invariant_of-result : goal.invariant_of-result
invariant_of-result c = record {
  zones =
      packed_can c.args.store.now c.shape-shape.result _ c.loop-piece.piece-iterator c.loop-piece.zones.items c.shape-shape.ensures.value (period_word c.args.store.now.period c.period.result c.period.ensures c.shape-shape.ensures.valid.period_low c.shape-shape.ensures.valid.period_high)
      c.in-None.ensures.steps.0 c.loop-piece.invariant c.shape-shape.ensures.valid;
  first_is = subst (λ o. IsFirstSpot (store_of c.shape-shape.result (nat_abs (to_z w64 (of_z w64 c.period.result))) c.loop-piece.zones.items) o) (sym c.in_ok-first.ensures)
      (first_again c.args.store.now _
      (packed_same c.args.store.now c.shape-shape.result (nat_abs (to_z w64 (of_z w64 c.period.result))) c.loop-piece.piece-iterator c.loop-piece.zones.items c.shape-shape.ensures.value (period_word c.args.store.now.period c.period.result c.period.ensures c.shape-shape.ensures.valid.period_low c.shape-shape.ensures.valid.period_high)
      c.in-None.ensures.steps.0 c.loop-piece.invariant)
      c.first.result (first_found c.args.store.now c.first.result c.first.ensures.none c.first.ensures.some c.first.ensures.first));
}

pub returns : goal.returns
returns c =
    packed_same c.args.store.now c.shape-shape.result _ c.loop-piece.piece-iterator c.loop-piece.zones.items c.shape-shape.ensures.value (period_word c.args.store.now.period c.period.result c.period.ensures c.shape-shape.ensures.valid.period_low c.shape-shape.ensures.valid.period_high)
    c.in-None.ensures.steps.0 c.loop-piece.invariant
