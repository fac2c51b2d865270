-- The numbers of a column make up all of its tuples.
use Rattle.std.proofs.Common.{◌≡◌, ◌+◌, ◌*◌, ◌<◌, ◌≤◌, ℕ, List, sym, ap, subst, ◌∙◌, arith, get_or, length, replicate}
use Rattle.std.specs.Prelude.{ℤ, pos}
use Rattle.lrp_minus.specs.Absences.{IsAbsent}
use Rattle.lrp_minus.proofs.AbsenceLaws.{filling_on, noughts, texts_added, texts_refused, chosen_more, text_more, text_refused}
use Rattle.lrp_tables.proofs.Gathering.{gathering_none}
use Rattle.lrp_cutting.proofs.Lists.{on_ok}
use Rattle.lrp_minus.specs.Counts.{most_left}
use Rattle.lrp_minus.proofs.Growth.{texts_chosen, texts_first, texts_last, texts_next}
use Rattle.lrp_minus.proofs.absences.+fill_texts.Goals as goal
use Rattle.lrp_store.specs.Stores.{AreChosenTexts}

pub returns-then-column-columns-clause-ok : goal.returns-then-column-columns-clause-ok
returns-then-column-columns-clause-ok t c =
    let all : c.args.column ≡ c.args.absences.now.store.now.shape.texts = c.if-column-columns.true ∙ c.from-columns.ensures ∙ ap (λ s. s.texts) c.shape.ensures.value in
    on_ok _ _ c.fill_residues.result (λ f high r. texts_added c.args.absences.now.store.now c.requires.fill.store c.args.absences.now.size c.args.column c.args.texts.now c.requires.chosen all (replicate 8 (pos 0)) noughts c.args.absences.now.cap (high + 2 * c.args.absences.now.store.now.period) c.args.out.now c.fill_residues.new.out c.requires.fill.valid (f high r))
    c.fill_residues.ensures.ok

pub returns-then-column-columns-clause-refused : goal.returns-then-column-columns-clause-refused
returns-then-column-columns-clause-refused t c = λ e high r.
    let all : c.args.column ≡ c.args.absences.now.store.now.shape.texts = c.if-column-columns.true ∙ c.from-columns.ensures ∙ ap (λ s. s.texts) c.shape.ensures.value in
    texts_refused c.args.absences.now.store.now c.requires.fill.store c.args.absences.now.size c.args.column c.args.texts.now c.requires.chosen all (replicate 8 (pos 0)) noughts c.args.absences.now.cap (high + 2 * c.args.absences.now.store.now.period) c.args.out.now c.fill_residues.new.out c.requires.fill.valid (c.fill_residues.ensures.refused e high r)

pub loop-number-init : goal.loop-number-init
loop-number-init t c = (
  λ high r. gathering_none (IsAbsent c.args.absences.now.size c.args.absences.now.store.now c.args.column c.args.texts.now) c.args.absences.now.cap (high + 2 * c.args.absences.now.store.now.period) c.args.out.now (λ (xs : List ℤ) (ns : List ℕ). 0 ≤ get_or ns c.args.column 0) c.requires.fill.valid (λ xs ns h. omega arith),
  texts_first c.args.column c.args.texts.now (most_left c.args.absences.now.store.now) c.args.out.now,
)

pub fill_texts-requires : goal.fill_texts-requires
fill_texts-requires t c =
    let columns : c.from-columns.result ≡ c.args.absences.now.store.now.shape.texts = c.from-columns.ensures ∙ ap (λ s. s.texts) c.shape.ensures.value in
    let low : c.args.column < c.args.absences.now.store.now.shape.texts = omega (arith, c.requires.column, columns, c.if-column-columns.false) in
    let g = (c.loop-number.invariant.0 _ c.requires.fill.turned.reach).grown in (
      omega arith,
      (
        filling_on c.args.absences.now.store.now c.args.out.now c.loop-number.out c.requires.fill g,
        (
          omega arith,
          subst (λ (d : List ℕ). AreChosenTexts c.args.absences.now.size (c.args.column + 1) d) (sym c.with_text-next.ensures)
              (chosen_more c.args.absences.now.store.now c.requires.fill.store c.args.absences.now.size c.args.column c.args.texts.now c.requires.chosen low c.loop-number.number c.loop-number-test.true),
        ),
      ),
    )

pub returns-in-Err-clause-refused : goal.returns-in-Err-clause-refused
returns-in-Err-clause-refused t c = λ e high r.
    let columns : c.from-columns.result ≡ c.args.absences.now.store.now.shape.texts = c.from-columns.ensures ∙ ap (λ s. s.texts) c.shape.ensures.value in
    let low : c.args.column < c.args.absences.now.store.now.shape.texts = omega (arith, c.requires.column, columns, c.if-column-columns.false) in
    text_refused c.args.absences.now.store.now c.requires.fill.store c.args.absences.now.size c.args.column c.args.texts.now c.requires.chosen low c.loop-number.number c.args.absences.now.cap (high + 2 * c.args.absences.now.store.now.period) c.args.out.now c.loop-number.out c.fill_texts.new.out c.with_text-next.result c.with_text-next.ensures
    (c.loop-number.invariant.0 high r) (c.in-Err.ensures.refused e high r)

pub loop-number-preserved : goal.loop-number-preserved
loop-number-preserved t c = (
  λ high r.
      let columns : c.from-columns.result ≡ c.args.absences.now.store.now.shape.texts = c.from-columns.ensures ∙ ap (λ s. s.texts) c.shape.ensures.value in
      let low : c.args.column < c.args.absences.now.store.now.shape.texts = omega (arith, c.requires.column, columns, c.if-column-columns.false) in
      text_more c.args.absences.now.store.now c.requires.fill.store c.args.absences.now.size c.args.column c.args.texts.now c.requires.chosen low c.loop-number.number c.args.absences.now.cap (high + 2 * c.args.absences.now.store.now.period) c.args.out.now c.loop-number.out c.fill_texts.new.out c.with_text-next.result c.with_text-next.ensures
      (c.loop-number.invariant.0 high r) (c.in-Ok.ensures.ok high r),
  (let columns : c.from-columns.result ≡ c.args.absences.now.store.now.shape.texts = c.from-columns.ensures ∙ ap (λ s. s.texts) c.shape.ensures.value in
      let low : c.args.column < c.args.absences.now.store.now.shape.texts = omega (arith, c.requires.column, columns, c.if-column-columns.false) in
      let eight : c.args.absences.now.store.now.shape.texts ≤ 8 = c.requires.fill.store.texts in
      let size : length c.args.texts.now ≡ 8 = c.requires.chosen.padded.size in
      texts_next c.args.column c.args.texts.now c.loop-number.number (omega (arith, low, eight, size)) (most_left c.args.absences.now.store.now) c.args.out.now c.loop-number.out c.fill_texts.new.out c.with_text-next.result c.with_text-next.ensures c.loop-number.invariant.1 c.in-Ok.ensures.few),
)

pub returns-clause-few : goal.returns-clause-few
returns-clause-few t c = texts_last c.args.column c.args.texts.now c.loop-number.number (most_left c.args.absences.now.store.now) c.args.out.now c.loop-number.out c.loop-number.invariant.1

pub returns-then-column-columns-clause-few : goal.returns-then-column-columns-clause-few
returns-then-column-columns-clause-few t c = on_ok _ _ c.fill_residues.result (λ g. texts_chosen c.args.column (record { texts = c.args.texts.now; residues = replicate 8 (pos 0) }) (most_left c.args.absences.now.store.now) c.args.out.now c.fill_residues.new.out g) c.fill_residues.ensures.few
