-- Each zone of the store is packed.
use Rattle.std.proofs.Common.{◌∙◌, ap, subst, sym}
use Rattle.lrp_packed.specs.Entries.{IsFullSize}
use Rattle.lrp_tables.specs.Pieces.{ArePieces}
use Rattle.lrp_packed.proofs.Unpacked.{packed_can, packed_pieces, packing_more, packing_none, period_word, sizes_of}
use Rattle.lrp_packed.proofs.lists.PackedList.of.Goals as goal

pub loop-piece-init : goal.loop-piece-init
loop-piece-init c = packing_none c.args.store.now _ _ c.in_ok-zones.ensures.items (subst (λ l. ArePieces c.args.store.now l) (sym c.into_iter-piece-iterator.ensures.into_iter_gives) c.of-piece-items.ensures)

pub of-requires : goal.of-requires
of-requires c = subst (λ t. IsFullSize c.in-Some.piece.cell t) (sym c.bounds.ensures.value) (sizes_of c.args.store.now c.shape-shape.ensures.valid c.loop-piece.piece-iterator c.next.new.self c.in-Some.piece c.loop-piece.zones.items c.in-Some.ensures.steps c.loop-piece.invariant)

pub loop-piece-preserved : goal.loop-piece-preserved
loop-piece-preserved c =
    packing_more c.args.store.now c.loop-piece.piece-iterator c.next.new.self c.in-Some.piece c.in_ok-of.field-0 c.loop-piece.zones.items c.push.new.self.items c.in-Some.ensures.steps
    (c.in_ok-of.ensures ∙ ap (λ t. (c.in-Some.piece.cell, t)) c.bounds.ensures.value) c.in_ok-push.ensures.items c.loop-piece.invariant

pub invariant_of-result : goal.invariant_of-result
invariant_of-result c =
    packed_can c.args.store.now c.shape-shape.result _ c.loop-piece.piece-iterator c.loop-piece.zones.items c.shape-shape.ensures.value (period_word c.args.store.now.period c.period.result c.period.ensures c.shape-shape.ensures.valid.period_low c.shape-shape.ensures.valid.period_high)
    c.in-None.ensures.steps.0 c.loop-piece.invariant c.shape-shape.ensures.valid

pub returns : goal.returns
returns c =
    packed_pieces c.args.store.now c.shape-shape.result _ c.loop-piece.piece-iterator c.loop-piece.zones.items c.shape-shape.ensures.value (period_word c.args.store.now.period c.period.result c.period.ensures c.shape-shape.ensures.valid.period_low c.shape-shape.ensures.valid.period_high)
    c.in-None.ensures.steps.0 c.loop-piece.invariant c.shape-shape.ensures.valid
