-- Numbers that are marked.
use Rattle.std.specs.Prelude.{◌≡◌, ℕ, ℤ, Bool, true, false, pos, List, slice_index_or}
use Rattle.lrp_model.specs.declared.tuples.Cell.{Cell}

-- the residue of the first column
abbrev pub first_residue : Cell → ℤ
first_residue cell = slice_index_or cell.residues 0 (pos 0)

-- the mark at the number's place is set
pub record IsMarked (marks : List Bool) (x : ℤ) : Type 0 where
  pub place : ℕ
  pub at : x ≡ pos place
  pub set : slice_index_or marks place false ≡ true

-- no number is marked
abbrev pub MarksNone : List Bool → Type 0
MarksNone marks = (x : ℤ) → IsMarked marks x → ⊥
