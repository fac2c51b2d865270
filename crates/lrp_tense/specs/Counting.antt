-- How operators are counted by the program: by their positions, in order.
use Rattle.std.specs.Prelude.{ℕ, ◌≡◌, ◌+◌, ◌*◌, ◌<◌, ◌^◌, suc, length, nat_lt, List, map, count_by, IsPermutation}
use Rattle.std.specs.List.{AllByRecursion}
use Rattle.std.specs.List.Sorted.{IsNonDecreasing}
use Rattle.lrp_model.specs.declared.tokens.Place.{Place}

-- a place as one number, which rises along a text
abbrev pub position_of : Place → ℕ
position_of p = 4294967296 * p.line + p.column

-- the number of the operator at a place among those at these positions, counted from 1
abbrev pub operator_number_in : List ℕ → Place → ℕ
operator_number_in positions p = suc (count_by (λ q. nat_lt q (position_of p)) positions)

-- a column of 32 bits
abbrev pub HasSmallColumn : Place → Type 0
HasSmallColumn p = p.column < 4294967296

-- the positions of operators, as these stand; their numbers have 64 bits
pub record ArePositions (positions : List ℕ) (places : List Place) : Type 0 where
  pub same : positions ≡ map position_of places
  pub small : AllByRecursion HasSmallColumn places
  pub few : length places < 2 ^ 64

-- the same in order
pub record AreNumbers (positions : List ℕ) (places : List Place) : Type 0 where
  pub same : IsPermutation (map position_of places) positions
  pub order : IsNonDecreasing positions
  pub small : AllByRecursion HasSmallColumn places
  pub few : length places < 2 ^ 64
