-- The texts of a whole answer: bounds in rows, and the values of a cell.
use Rattle.std.proofs.Common.{◌≡◌, ◌+◌, ◌∙◌, ℕ, zero, suc, List, ◌++◌, sym, ap, append_assoc, append-nil, arith, codes, take, add-one}
use Rattle.std.specs.Prelude.{ℤ, pos}
use Rattle.std.specs.List.{flat_map, range_with_len}
use Rattle.lrp_model.specs.Texts.{Text}
use Rattle.lrp_model.specs.Printed.{joined_by, value_bytes}
use Rattle.lrp_model.specs.Tuples.{in_head_order, texts_at}
use Rattle.lrp_model.specs.declared.relations.Column.{Column}
use Rattle.lrp_model.specs.declared.tuples.Cell.{Cell}
use Rattle.lrp_model.specs.declared.tuples.Shape.{Shape}
use Rattle.lrp_store.specs.Stores.{StoreView}
use Rattle.lrp_answer_text.specs.AnswerText.{cell_values, residue_point}
use Rattle.lrp_answer_text.specs.Lines.{values_after}
use Rattle.lrp_answer_text.proofs.LineLaws.{joined_after, values_spelled}

-- ---- rows of tables

-- what is made of each number up to one more
range_grows : {A : Type 0} (f : ℕ → List A) (a n : ℕ) → flat_map f (range_with_len a (suc n)) ≡ flat_map f (range_with_len a n) ++ f (a + n)
range_grows f a zero = let e : a + 0 ≡ a = omega arith in append-nil (f a) ∙ ap f (sym e)
range_grows f a (suc n) =
    let e : a + 1 + n ≡ a + suc n = omega arith in
    ap (λ r. f a ++ r) (range_grows f (a + 1) n) ∙ sym (append_assoc (f a) (flat_map f (range_with_len (a + 1) n)) (f (a + 1 + n))) ∙ ap (λ m. (f a ++ flat_map f (range_with_len (a + 1) n)) ++ f m) e

pub range_more : {A : Type 0} (f : ℕ → List A) (n : ℕ) → flat_map f (range_with_len 0 (n + 1)) ≡ flat_map f (range_with_len 0 n) ++ f n
range_more f n = let e : 0 + n ≡ n = omega arith in rw add-one (range_grows f 0 n ∙ ap (λ m. flat_map f (range_with_len 0 n) ++ f m) e)

-- after what was there, one more
pub pushed : {A : Type 0} (f : ℕ → List A) (n : ℕ) (old now new : List A) → now ≡ old ++ flat_map f (range_with_len 0 n) → new ≡ now ++ f n → new ≡ old ++ flat_map f (range_with_len 0 (n + 1))
pushed f n old now new e g = g ∙ ap (λ r. r ++ f n) e ∙ append_assoc old (flat_map f (range_with_len 0 n)) (f n) ∙ ap (λ r. old ++ r) (sym (range_more f n))

-- the values of a cell, by what is read of the answer
pub values_same : (columns : List Column) (domain : List Text) (s : StoreView) (cell : Cell) (period : ℤ) (cs : List Column) (shape : Shape) → period ≡ pos s.period → cs ≡ columns → shape ≡ s.shape
    → values_after (residue_point period) (codes "") (codes ", ") (in_head_order cs (take shape.times cell.residues) (texts_at domain (take shape.texts cell.texts))) ≡ joined_by (codes ", ") value_bytes (cell_values columns domain s cell)
values_same columns domain s cell period cs shape e g h =
    let tuple = in_head_order columns (take s.shape.times cell.residues) (texts_at domain (take s.shape.texts cell.texts)) in
    rw (e, g, h) (joined_after (residue_point (pos s.period)) (codes ", ") tuple ∙ values_spelled (pos s.period) tuple)
