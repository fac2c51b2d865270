-- One cell more is marked.
use Rattle.std.proofs.Common.{◌≡◌, ◌<◌, ◌∙◌, arith, length, refl, sym, subst}
use Rattle.std.proofs.lemmas.Int.{ints}
use Rattle.std.specs.Prelude.{pos}
use Rattle.lrp_theory.specs.Entries.{node}
use Rattle.lrp_steps.proofs.Steps.{store_period}
use Rattle.lrp_periods.proofs.Sieving.{IsMarking, marking_done, marking_more, marking_next, marking_none}
use Rattle.lrp_periods.proofs.sieves.cover_of.Goals as goal

pub loop-cell-init : goal.loop-cell-init
loop-cell-init c = marking_none c.args.store.now c.requires.line c.requires.whole c.into_iter-cell-iterator.result c.in_ok-marks.marks.items _
    (c.into_iter-cell-iterator.ensures.into_iter_gives ∙ c.cells-cell-items.ensures) (c.in_ok-marks.ensures.items_if_clones_equal (λ y e. e))
    (store_period c.args.store.now.period c.period.result c.requires.line.valid.period_low c.requires.line.valid.period_high c.period.ensures)

pub first_residue-place-requires : goal.first_residue-place-requires
first_residue-place-requires c =
    let own = marking_next c.args.store.now c.requires.line c.requires.whole c.loop-cell.cell-iterator c.next.new.self c.in-Some.cell c.loop-cell.marks.items c.in-Some.ensures.steps c.loop-cell.invariant in
    let at : node c.in-Some.cell.residues 1 ≡ pos own.residue = own.at in
    record { size = own.size; low = omega (arith, ints, at) }

pub index_mut-requires : goal.index_mut-requires
index_mut-requires c =
    let own = marking_next c.args.store.now c.requires.line c.requires.whole c.loop-cell.cell-iterator c.next.new.self c.in-Some.cell c.loop-cell.marks.items c.in-Some.ensures.steps c.loop-cell.invariant in
    let at : pos c.first_residue-place.result ≡ pos own.residue = c.first_residue-place.ensures ∙ own.at in
    let low : own.residue < c.args.store.now.period = own.low in
    let count : length c.loop-cell.marks.items ≡ c.args.store.now.period = c.loop-cell.invariant.count in
    omega (arith, ints, at, low, count)

pub loop-cell-preserved : goal.loop-cell-preserved
loop-cell-preserved c = marking_more c.args.store.now c.requires.line c.requires.whole c.loop-cell.cell-iterator c.next.new.self c.in-Some.cell c.loop-cell.marks.items _ c.first_residue-place.result c.in-Some.ensures.steps c.first_residue-place.ensures refl c.loop-cell.invariant

pub returns : goal.returns
returns c = marking_done c.args.store.now c.requires.line c.requires.whole c.loop-cell.cell-iterator (record { residues = c.from_vec.result }) c.in-None.ensures.steps.0 (subst (IsMarking c.args.store.now c.loop-cell.cell-iterator) (sym c.from_vec.ensures) c.loop-cell.invariant)
