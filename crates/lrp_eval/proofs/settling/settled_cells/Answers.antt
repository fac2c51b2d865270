-- One cell more is settled.
use Rattle.std.proofs.Common.{◌≡◌, ◌≤◌, ◌^◌, ℕ, ap, arith, ◌∙◌, to_z, of_z, w64}
use Rattle.std.specs.Prelude.{ℤ, pos, nat_abs}
use Rattle.std.proofs.lemmas.Int.{ints}
use Rattle.lrp_store.specs.Stores.{StoreView}
use Rattle.lrp_eval.proofs.SettleLaws.{settling_none, settling_more, settled_all, some_zone}
use Rattle.lrp_eval.proofs.settling.settled_cells.Goals as goal

-- a period of 63 bits is its word
word_is : (p : ℕ) (z : ℤ) → z ≡ pos p → p ≤ 2 ^ 62 → nat_abs (to_z w64 (of_z w64 z)) ≡ p
word_is p z e h = omega (arith, ints)

pub loop-cell-init : goal.loop-cell-init
loop-cell-init c =
    settling_none c.args.store.now c.new-made.result c.into_iter-cell-iterator.result c.shape.ensures.valid
    (ap (λ (v : StoreView). v.shape) c.new-made.ensures ∙ c.shape.ensures.value)
    (ap (λ (v : StoreView). v.period) c.new-made.ensures ∙ word_is c.args.store.now.period c.period.result c.period.ensures c.shape.ensures.valid.period_high)
    (ap (λ (v : StoreView). v.tables) c.new-made.ensures)
    (c.into_iter-cell-iterator.ensures.into_iter_gives ∙ c.cells-cell-items.ensures)

pub settle_cell-requires : goal.settle_cell-requires
settle_cell-requires c = record {
  room = c.requires.room;
  some = some_zone c.args.store.now c.loop-cell.made c.loop-cell.cell-iterator c.next.new.self c.in-Some.cell c.in-Some.ensures.steps c.loop-cell.invariant;
  like = record { shape = c.loop-cell.invariant.shape; period = c.loop-cell.invariant.period_is };
}

pub loop-cell-preserved : goal.loop-cell-preserved
loop-cell-preserved c = settling_more c.args.store.now c.loop-cell.made c.settle_cell.new.made c.loop-cell.cell-iterator c.next.new.self c.in-Some.cell c.in-Some.ensures.steps c.loop-cell.invariant c.in_ok-settle_cell.ensures

pub returns : goal.returns
returns c = settled_all c.args.store.now c.loop-cell.made c.loop-cell.cell-iterator c.in-None.ensures.steps.0 c.shape-2.ensures.valid c.loop-cell.invariant
