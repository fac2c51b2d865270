-- How many zones the cells of differences and complements have at most.
use Rattle.std.specs.Prelude.{◌≡◌, ◌⊎◌, ℕ, ◌+◌, ◌*◌, ◌<◌, ◌≤◌, List, [], ◌∷◌, length, map, pos, slice_index_or}
use Rattle.std.specs.Int.{int_rem_euclid}
use Rattle.lrp_model.specs.declared.tuples.Cell.{Cell}
use Rattle.lrp_store.specs.Stores.{StoreView, tables_at, whole_zone, zones_at}
use Rattle.lrp_cutting.specs.declared.pairs.NodePair.{NodePair}
use Rattle.lrp_cutting.specs.Thresholds.{most_pieces, pairs_below}

-- no cell has more than n zones
abbrev pub HasAtMost : ℕ → StoreView → Type 0
HasAtMost n s = (cell : Cell) → length (tables_at s cell) ≤ n

-- the most pieces that the zones of a cell leave of the whole cell
abbrev pub most_left : StoreView → Cell → ℕ
most_left s cell = most_pieces (whole_zone s cell) (zones_at s cell)

-- the product of 2n + 1 over the pairs: n cutters have at most 2n thresholds along each
abbrev pub most_parts_by : ℕ → List NodePair → ℕ
most_parts_by n [] = 1
most_parts_by n (p ∷ ps) = (2 * n + 1) * most_parts_by n ps

-- the most pieces that n cutters leave of a zone of m columns
abbrev pub most_by : ℕ → ℕ → ℕ
most_by m n = most_parts_by n (pairs_below (m + 1))

-- each cell has at most as many zones as those that it has in s leave of the whole cell
pub record HasFewAbsences (s made : StoreView) : Type 0 where
  pub each : (cell : Cell) → length (tables_at made cell) ≤ most_left s cell

-- the most pieces that n cutters leave of all zones that a cell has in the left store
abbrev pub most_spared : StoreView → ℕ → Cell → ℕ
most_spared left n cell = length (tables_at left cell) * most_by left.shape.times n

-- the cell of period k in which a cell of a multiple of k lies: it has its texts, and its residues modulo k
abbrev pub cell_modulo : ℕ → Cell → Cell
cell_modulo k cell = record { texts = cell.texts; residues = map (λ r. int_rem_euclid r (pos k)) cell.residues }

-- where no cell of the right store has more than n zones, each cell has at most as many as n cutters leave of the zones of the left store's cell in which it lies
pub record HasFewSpared (left right made : StoreView) : Type 0 where
  pub each : (n : ℕ) → HasAtMost n right → (cell : Cell) → length (tables_at made cell) ≤ most_spared left n (cell_modulo left.period cell)

-- ---- what functions inside say to one another

-- in a cell of P the new store has at most so many zones more, and in the others it has the same ones
pub record GrowsIn (P : Cell → Type 0) (n : Cell → ℕ) (old new : StoreView) : Type 0 where
  pub each : (cell : Cell) → (tables_at new cell ≡ tables_at old cell) ⊎ (P cell × (length (tables_at new cell) ≤ length (tables_at old cell) + n cell))

-- the cell lies in this one of period k
abbrev pub LiesInWideCell : ℕ → Cell → Cell → Type 0
LiesInWideCell k wide cell = cell_modulo k cell ≡ wide

-- the cell has these texts before a column
abbrev pub BeginsWithTexts : ℕ → List ℕ → Cell → Type 0
BeginsWithTexts column texts cell = (i : ℕ) → i < column → slice_index_or cell.texts i 0 ≡ slice_index_or texts i 0

-- the cell has the texts of another one, and its residues before a column
pub record BeginsWithResidues (column : ℕ) (chosen cell : Cell) : Type 0 where
  pub texts : cell.texts ≡ chosen.texts
  pub residues : (i : ℕ) → i < column → slice_index_or cell.residues i (pos 0) ≡ slice_index_or chosen.residues i (pos 0)
