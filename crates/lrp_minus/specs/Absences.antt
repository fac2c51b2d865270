-- What a store has not, as the tuples of its cells.
use Rattle.std.specs.Prelude.{◌≡◌, ℕ, ℤ, ◌+◌, ◌*◌, ◌-◌, ◌^◌, ◌<◌, ◌≤◌, pos, ◌-ℤ◌, List, length, take, All, slice_index}
use Rattle.lrp_theory.specs.Divides.{Divides}
use Rattle.lrp_theory.specs.Entries.{node}
use Rattle.lrp_model.specs.declared.tuples.Cell.{Cell}
use Rattle.lrp_zone.specs.Zones.{IsResidue}
use Rattle.lrp_store.specs.Growing.{IsAdded, IsRefused}
use Rattle.lrp_store.specs.Stores.{StoreView, IsStore, InStore, IsPadded, HasReach}
use Rattle.lrp_cutting.specs.Settling.{IsLike}
use Rattle.lrp_minus.specs.declared.absences.Absences.{Absences}

-- a tuple of the store's shape that is not in it; its numbers of texts are below the size, and those before a column are the chosen ones
pub record IsAbsent (size : ℕ) (s : StoreView) (column : ℕ) (chosen : List ℕ) (times : List ℤ) (texts : List ℕ) : Type 0 where
  pub times_count : length times ≡ s.shape.times
  pub texts_count : length texts ≡ s.shape.texts
  pub known : All (λ n. n < size) texts
  pub same : (i : ℕ) → i < column → slice_index texts i ≡ slice_index chosen i
  pub none : InStore s times texts → ⊥

-- a tuple of the store's shape that is not in it; it has the cell's texts, and the cell's residues before a column
pub record IsAbsentAt (s : StoreView) (column : ℕ) (cell : Cell) (times : List ℤ) (texts : List ℕ) : Type 0 where
  pub count : length times ≡ s.shape.times
  pub residues : (i : ℕ) → i ≤ column → Divides (pos s.period) (node times i -ℤ node cell.residues i)
  pub named : take s.shape.texts cell.texts ≡ texts
  pub none : InStore s times texts → ⊥

-- the cell has a text for each column of the store, residues before a column, and zeros after them
pub record IsChosenTo (s : StoreView) (column : ℕ) (cell : Cell) : Type 0 where
  pub texts : IsPadded 0 s.shape.texts cell.texts
  pub residues : IsPadded (pos 0) column cell.residues
  pub range : (i : ℕ) → i ≤ column → IsResidue s.period (node cell.residues i)

-- the bounds of its zones can be turned
pub record CanBeTurned (s : StoreView) : Type 0 where
  pub period : 2 * s.period ≤ 2 ^ 62
  pub reach : HasReach s (2 ^ 62 - 2 * s.period)

-- the cell has a text and a residue for each column of the store, and zeros after them
abbrev pub IsChosenWhole : StoreView → Cell → Type 0
IsChosenWhole s cell = IsChosenTo s s.shape.times cell

-- what s has not can be added to out, a store of its shape and period
pub record CanFill (s out : StoreView) : Type 0 where
  pub store : IsStore s
  pub valid : IsStore out
  pub like : IsLike s out
  pub turned : CanBeTurned s

-- the set is added to old, by bounds that are at most two periods greater than those of the store s
abbrev pub IsAddedBeyond : StoreView → (List ℤ → List ℕ → Type 0) → ℕ → StoreView → StoreView → Type 0
IsAddedBeyond s set cap old new = (high : ℕ) → HasReach s high → IsAdded set cap (high + 2 * s.period) old new

-- or it has a cell that would be one too many
abbrev pub IsRefusedBeyond : StoreView → (List ℤ → List ℕ → Type 0) → ℕ → StoreView → StoreView → Type 0
IsRefusedBeyond s set cap old new = (high : ℕ) → HasReach s high → IsRefused set cap (high + 2 * s.period) old new

-- ---- of a store with a size and a cap

-- a tuple that it has not, whose texts before a column are the chosen ones
abbrev pub IsAbsentFrom : Absences → ℕ → List ℕ → List ℤ → List ℕ → Type 0
IsAbsentFrom a column chosen = IsAbsent a.size a.store.now column chosen

-- one that has the cell's texts, and its residues before a column
abbrev pub IsAbsentAtFrom : Absences → ℕ → Cell → List ℤ → List ℕ → Type 0
IsAbsentAtFrom a column cell = IsAbsentAt a.store.now column cell

-- one that lies in the cell
abbrev pub IsAbsentInCell : Absences → Cell → List ℤ → List ℕ → Type 0
IsAbsentInCell a cell = IsAbsentAt a.store.now a.store.now.shape.times cell

-- the set is added
abbrev pub AreAbsencesAdded : Absences → (List ℤ → List ℕ → Type 0) → StoreView → StoreView → Type 0
AreAbsencesAdded a set old new = IsAddedBeyond a.store.now set a.cap old new

-- or it has a cell that would be one too many
abbrev pub AreAbsencesRefused : Absences → (List ℤ → List ℕ → Type 0) → StoreView → StoreView → Type 0
AreAbsencesRefused a set old new = IsRefusedBeyond a.store.now set a.cap old new
