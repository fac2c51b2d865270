-- Cells at places.
use Rattle.std.specs.Prelude.{List, Option, Some, Contains}
use Rattle.lrp_model.specs.declared.tuples.Cell.{Cell}

-- no cell stands at any of the places
abbrev pub RemembersNone : List (Option Cell) → Type 0
RemembersNone places = (cell : Cell) → Contains places (Some cell) → ⊥
