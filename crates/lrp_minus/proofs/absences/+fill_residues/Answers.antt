-- The residues of a column make up all of its tuples.
use Rattle.std.proofs.Common.{◌≡◌, ◌+◌, ◌*◌, ◌<◌, to_z, of_z, sym, ap, subst, ◌∙◌, arith, ◌≤◌, length}
use Rattle.std.specs.Prelude.{ℤ, pos, ◌<ℤ◌}
use Rattle.lrp_model.specs.declared.tuples.Cell.{Cell}
use Rattle.std.specs.Int.{w64}
use Rattle.std.proofs.lemmas.Int.{ints}
use Rattle.lrp_minus.specs.Absences.{IsAbsentAt, IsChosenTo}
use Rattle.lrp_minus.proofs.AbsenceLaws.{IsPastResidue, filling_on, period_word, next_word, after_none, residue_chosen, residue_more, residue_refused}
use Rattle.lrp_tables.proofs.Gathering.{IsGathering, gathering_none}
use Rattle.lrp_minus.specs.Counts.{GrowsIn, most_left}
use Rattle.lrp_minus.proofs.Growth.{HasResidueBefore, grows_not, residues_chosen, residues_last, residues_next}
use Rattle.lrp_cutting.proofs.Lists.{on_ok}
use Rattle.lrp_minus.proofs.absences.+fill_residues.Goals as goal

pub loop-residue-init : goal.loop-residue-init
loop-residue-init t c =
    let columns : c.from-columns.result ≡ c.args.absences.now.store.now.shape.times = c.from-columns.ensures ∙ ap (λ s. s.times) c.shape.ensures.value in
    let low : c.args.column < c.args.absences.now.store.now.shape.times = omega (arith, c.requires.column, columns, c.if-column-columns.false) in (
      omega (arith, ints),
      λ high r. gathering_none (IsAbsentAt c.args.absences.now.store.now c.args.column c.args.cell.now) c.args.absences.now.cap (high + 2 * c.args.absences.now.store.now.period) c.args.out.now (IsPastResidue c.args.absences.now.store.now.period c.args.column (pos 0)) c.requires.fill.valid
          (after_none c.args.absences.now.store.now c.requires.fill.store c.args.column c.args.cell.now c.requires.chosen low),
      grows_not (HasResidueBefore c.args.column c.args.cell.now (pos 0)) (most_left c.args.absences.now.store.now) c.args.out.now,
    )

pub fill_residues-requires : goal.fill_residues-requires
fill_residues-requires t c =
    let columns : c.from-columns.result ≡ c.args.absences.now.store.now.shape.times = c.from-columns.ensures ∙ ap (λ s. s.times) c.shape.ensures.value in
    let low : c.args.column < c.args.absences.now.store.now.shape.times = omega (arith, c.requires.column, columns, c.if-column-columns.false) in
    let g = (c.loop-residue.invariant.1 _ c.requires.fill.turned.reach).grown in
    let end : to_z w64 (of_z w64 c.period-residue-end.result) ≡ pos c.args.absences.now.store.now.period = period_word c.args.absences.now.store.now c.requires.fill.store c.period-residue-end.result c.period-residue-end.ensures in
    let below : to_z w64 c.loop-residue.residue-bits <ℤ pos c.args.absences.now.store.now.period = omega (arith, ints, end, c.loop-residue-test.true) in (
      omega arith,
      (
        filling_on c.args.absences.now.store.now c.args.out.now c.loop-residue.out c.requires.fill g,
        (
          omega arith,
          subst (λ (d : Cell). IsChosenTo c.args.absences.now.store.now (c.args.column + 1) d) (sym c.with_residue-next.ensures)
              (residue_chosen c.args.absences.now.store.now c.requires.fill.store c.args.column c.args.cell.now c.requires.chosen low (to_z w64 c.loop-residue.residue-bits) c.loop-residue.invariant.0 below),
        ),
      ),
    )

pub returns-in-Err-clause-refused : goal.returns-in-Err-clause-refused
returns-in-Err-clause-refused t c = λ e high r.
    let columns : c.from-columns.result ≡ c.args.absences.now.store.now.shape.times = c.from-columns.ensures ∙ ap (λ s. s.times) c.shape.ensures.value in
    let low : c.args.column < c.args.absences.now.store.now.shape.times = omega (arith, c.requires.column, columns, c.if-column-columns.false) in
    residue_refused c.args.absences.now.store.now c.requires.fill.store c.args.column c.args.cell.now c.requires.chosen low (to_z w64 c.loop-residue.residue-bits) c.args.absences.now.cap (high + 2 * c.args.absences.now.store.now.period) c.args.out.now c.loop-residue.out c.fill_residues.new.out c.with_residue-next.result c.with_residue-next.ensures
    (c.loop-residue.invariant.1 high r) (c.in-Err.ensures.refused e high r)

pub loop-residue-preserved : goal.loop-residue-preserved
loop-residue-preserved t c =
    let columns : c.from-columns.result ≡ c.args.absences.now.store.now.shape.times = c.from-columns.ensures ∙ ap (λ s. s.times) c.shape.ensures.value in
    let low : c.args.column < c.args.absences.now.store.now.shape.times = omega (arith, c.requires.column, columns, c.if-column-columns.false) in
    let end : to_z w64 (of_z w64 c.period-residue-end.result) ≡ pos c.args.absences.now.store.now.period = period_word c.args.absences.now.store.now c.requires.fill.store c.period-residue-end.result c.period-residue-end.ensures in
    let below : to_z w64 c.loop-residue.residue-bits <ℤ pos c.args.absences.now.store.now.period = omega (arith, ints, end, c.loop-residue-test.true) in
    let next = next_word c.args.absences.now.store.now c.requires.fill.store (to_z w64 c.loop-residue.residue-bits) c.loop-residue.invariant.0 below in (
      next.1,
      λ high r. subst (λ (e : ℤ). IsGathering (IsAbsentAt c.args.absences.now.store.now c.args.column c.args.cell.now) (IsPastResidue c.args.absences.now.store.now.period c.args.column e) c.args.absences.now.cap (high + 2 * c.args.absences.now.store.now.period) c.args.out.now c.fill_residues.new.out) (sym next.0)
          (residue_more c.args.absences.now.store.now c.requires.fill.store c.args.column c.args.cell.now c.requires.chosen low (to_z w64 c.loop-residue.residue-bits) c.args.absences.now.cap (high + 2 * c.args.absences.now.store.now.period) c.args.out.now c.loop-residue.out c.fill_residues.new.out c.with_residue-next.result c.with_residue-next.ensures
          (c.loop-residue.invariant.1 high r) (c.in-Ok.ensures.ok high r)),
      subst (λ (e : ℤ). GrowsIn (HasResidueBefore c.args.column c.args.cell.now e) (most_left c.args.absences.now.store.now) c.args.out.now c.fill_residues.new.out) (sym next.0)
          (residues_next c.args.column c.args.cell.now (to_z w64 c.loop-residue.residue-bits) (let eight : c.args.absences.now.store.now.shape.times ≤ 8 = c.requires.fill.store.times in let size : length c.args.cell.now.residues ≡ 8 = c.requires.chosen.residues.size in omega (arith, low, eight, size))
          (most_left c.args.absences.now.store.now) c.args.out.now c.loop-residue.out c.fill_residues.new.out c.with_residue-next.result c.with_residue-next.ensures c.loop-residue.invariant.2 c.in-Ok.ensures.few),
    )

pub returns-clause-few : goal.returns-clause-few
returns-clause-few t c = residues_last c.args.column c.args.cell.now _ (most_left c.args.absences.now.store.now) c.args.out.now c.loop-residue.out c.loop-residue.invariant.2

pub returns-then-column-columns-clause-few : goal.returns-then-column-columns-clause-few
returns-then-column-columns-clause-few t c = on_ok _ _ c.fill_cell.result (λ g. residues_chosen c.args.column c.args.cell.now (most_left c.args.absences.now.store.now) c.args.out.now c.fill_cell.new.out g) c.fill_cell.ensures.few
