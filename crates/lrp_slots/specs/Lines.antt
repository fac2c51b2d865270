-- Cells with their chains in line, each cell after the ones before it. No public clause cites this module.
use Rattle.std.specs.Prelude.{◌≡◌, ◌⊎◌, ℕ, ◌<◌, ◌≤◌, List, [], ◌++◌, Some, length, slice_get}
use Rattle.std.specs.List.{AllByRecursion}
use Rattle.std.specs.List.Sorted.{IsStrictlySortedBy}
use Rattle.std.specs.Map.{keys_of}
use Rattle.std.specs.declared.cmp.Ordering.TheVariants.{Less, Equal, Greater}
use Rattle.lrp_model.specs.declared.tuples.Cell.{Cell}
use Rattle.lrp_slots.specs.declared.chains.Chain.{Chain}
use Rattle.lrp_slots.specs.Lists.{cell_cmp}

-- the cells ascend
abbrev pub IsLine : List (Cell × Chain) → Type 0
IsLine line = IsStrictlySortedBy cell_cmp (keys_of line)

-- the cell comes after each cell of the line
abbrev pub IsAfterAll : Cell → List (Cell × Chain) → Type 0
IsAfterAll cell line = AllByRecursion (λ e. cell_cmp cell e.0 ≡ Greater) line

-- the cell stands at this place of the line
pub record StandsInLine (line : List (Cell × Chain)) (cell : Cell) (place : ℕ) : Type 0 where
  pub within : place < length line
  pub entry : Cell × Chain
  pub read : slice_get line place ≡ Some entry
  pub same : cell_cmp cell entry.0 ≡ Equal

-- a cell comes after all before the one place, and before all from the other one on
pub record ComesBetween (line : List (Cell × Chain)) (cell : Cell) (low high : ℕ) : Type 0 where
  pub order : low ≤ high
  pub within : high ≤ length line
  pub before : (i : ℕ) (entry : Cell × Chain) → i < low → slice_get line i ≡ Some entry → cell_cmp cell entry.0 ≡ Greater
  pub after : (i : ℕ) (entry : Cell × Chain) → high ≤ i → slice_get line i ≡ Some entry → cell_cmp cell entry.0 ≡ Less

-- the cell is missing in the line, and this is the place where it goes
abbrev pub IsGap : List (Cell × Chain) → Cell → ℕ → Type 0
IsGap line cell place = ComesBetween line cell place place

-- the cells stand in the line or in the tree, in order
pub record StandOnce (line tree : List (Cell × Chain)) : Type 0 where
  pub one : (line ≡ []) ⊎ (tree ≡ [])
  pub ordered : IsLine (line ++ tree)
