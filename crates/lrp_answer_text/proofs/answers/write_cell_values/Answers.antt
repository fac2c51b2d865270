use Rattle.std.proofs.Common.{◌≡◌, ◌≤◌, ◌^◌, ℕ, to_z, of_z, w64, arith}
use Rattle.std.specs.Prelude.{ℤ, pos}
use Rattle.std.proofs.lemmas.Int.{ints}
use Rattle.lrp_print.proofs.Lines.{written_as}
use Rattle.lrp_answer_text.proofs.AnswerLines.{values_same}
use Rattle.lrp_answer_text.proofs.answers.write_cell_values.Goals as goal

-- a period of 63 bits is its word
word_is : (p : ℕ) (z : ℤ) → z ≡ pos p → p ≤ 2 ^ 62 → to_z w64 (of_z w64 z) ≡ pos p
word_is p z e h = omega (arith, ints)

pub returns-clause-text : goal.returns-clause-text
returns-clause-text g c =
    let answer = c.args.answer.now in
    let period = word_is answer.store.period c.period.result c.period.ensures c.shape-shape.ensures.valid.period_high in
    written_as _ _ _ _ _ (values_same answer.head.columns answer.domain answer.store c.args.cell.now _ _ _ period c.as_slice.ensures c.shape-shape.ensures.value) c.write_values.ensures.text
