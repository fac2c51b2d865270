-- Lists of values by cell, and how many more values can be taken in without memory.
use Rattle.std.specs.Prelude.{ℕ, ℤ, ◌-◌, List, [], ◌∷◌, ◌++◌, length, take, unwrap_or, refl}
use Rattle.std.specs.Ordering.{nat_cmp, int_cmp, ordering_then}
use Rattle.std.specs.declared.cmp.Ordering.{Ordering}
use Rattle.std.specs.Cmp.Lexicographic.{slice_cmp}
use Rattle.std.specs.Coded.{Coded, code_by, coded×, coded_ℕ, coded_ℤ, coded_list}
use Rattle.std.specs.FinMap as finite
use Rattle.lrp_model.specs.declared.tuples.Cell.{Cell}

-- cells in order of their texts' numbers, then of their residues
abbrev pub cell_cmp : Cell → Cell → Ordering
cell_cmp a b = ordering_then (slice_cmp nat_cmp a.texts b.texts) (slice_cmp int_cmp a.residues b.residues)

-- a cell is stored as the pair of its lists
abbrev pub cell_code : Coded Cell
cell_code =
    code_by (List ℕ × List ℤ) (coded× (coded_list coded_ℕ) (coded_list coded_ℤ)) (λ c. (c.texts, c.residues)) (λ p. record { texts = p.0; residues = p.1 }) (λ _. refl)

-- a list of values for each cell that is held, and how many more values need no memory
pub record SlotsValue (V : Type 0) : Type 0 where
  pub lists : finite.FinMap cell_cmp (List V)
  pub spare : ℕ

module _ {V : Type 0} where
  -- the value is stored as the pair of its parts
  abbrev pub slots_code : Coded V → Coded (SlotsValue V)
  slots_code code =
      code_by (finite.FinMap cell_cmp (List V) × ℕ) (coded× (finite.code cell_code (coded_list code)) coded_ℕ) (λ s. (s.lists, s.spare)) (λ p. record { lists = p.0; spare = p.1 }) (λ _. refl)

  -- a cell's list, which is empty where the cell is not held
  abbrev pub list_at : finite.FinMap cell_cmp (List V) → Cell → List V
  list_at lists cell = unwrap_or (finite.get lists cell) []

  -- the lists with this one in the place of a cell's; a cell with no value is not held
  abbrev pub set_list : finite.FinMap cell_cmp (List V) → Cell → List V → finite.FinMap cell_cmp (List V)
  set_list lists cell [] = finite.remove lists cell
  set_list lists cell (value ∷ values) = finite.insert lists cell (value ∷ values)

  -- the lists with these values at the end of a cell's, in order
  abbrev pub append_all : finite.FinMap cell_cmp (List V) → Cell → List V → finite.FinMap cell_cmp (List V)
  append_all lists cell [] = lists
  append_all lists cell (value ∷ values) = append_all (finite.insert lists cell (list_at lists cell ++ value ∷ [])) cell values

  -- the list with another value in the place of its last one
  abbrev pub with_last : List V → V → List V
  with_last values value = take (length values - 1) values ++ value ∷ []
