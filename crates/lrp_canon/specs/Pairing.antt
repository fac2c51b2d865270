-- Starts of rows with the stops after them.
use Rattle.std.specs.Prelude.{◌≡◌, ℕ, ℤ, ◌^◌, ◌<◌, ◌≤◌, List, length, Some, AllPairs, Contains, get_or}
use Rattle.lrp_theory.specs.Entries.{AtMost}
use Rattle.lrp_canon.specs.declared.edges.Edge.{Edge}
use Rattle.lrp_canon.specs.declared.rows.MaximalRow.{MaximalRow}
use Rattle.lrp_canon.specs.Edges.{IsEarlierEdge}
use Rattle.lrp_canon.specs.Making.{IsRowFrom}

-- the edges are in order, and each has a number from which the period can be taken
pub record AreStopEdges (period : ℕ) (stops : List Edge) : Type 0 where
  pub apart : AllPairs IsEarlierEdge stops
  pub high : period ≤ 2 ^ 62
  pub numbers : (e : Edge) → Contains stops e → (y : ℤ) × (e.number ≡ Some y) × AtMost (2 ^ 62) (Some y)

-- the rows begin at the starts, one after another
pub record AreRowsFrom (period : ℕ) (stops starts : List Edge) (rows : List MaximalRow) : Type 0 where
  pub count : length rows ≡ length starts
  pub each : (i : ℕ) (e : Edge) (row : MaximalRow) → i < length starts → IsRowFrom period stops (get_or starts i e) (get_or rows i row)
