-- What stands beneath longer tuples and their cells: their values at places.
use Rattle.std.specs.Prelude.{◌≡◌, ℕ, ℤ, ◌<◌, ◌≤◌, pos, ◌-ℤ◌, List, All, map, length, take, slice_index_or}
use Rattle.lrp_theory.specs.Divides.{Divides}
use Rattle.lrp_theory.specs.Entries.{node}
use Rattle.lrp_model.specs.declared.tuples.Cell.{Cell}
use Rattle.lrp_zone.specs.Spread.{ArePlaces, target}
use Rattle.lrp_store.specs.Stores.{StoreView, InStore, IsCellOf, IsPadded}
use Rattle.lrp_tables.specs.declared.names.Places.{Places}
use Rattle.lrp_tables.specs.Calls.{number_at}

-- the values at the places are a tuple of the store
abbrev pub HasBeneath : Places → StoreView → List ℤ → List ℕ → Type 0
HasBeneath places s times texts = InStore s (map (node times) places.times) (map (number_at texts) places.texts)

-- own has the residues at the places, in order, and zeros after them
pub record AreResiduesAt (places : List ℕ) (residues own : List ℤ) : Type 0 where
  pub padded : IsPadded (pos 0) (length places) own
  pub each : (p : ℕ) → p ≤ length places → node own p ≡ node residues (target places p)

-- own has the numbers at the places, in order, and zeros after them
pub record ArePickedNumbers (places numbers own : List ℕ) : Type 0 where
  pub padded : IsPadded 0 (length places) own
  pub each : (i : ℕ) → i < length places → slice_index_or own i 0 ≡ number_at numbers (slice_index_or places i 0)

-- there is a place for each column of the store: different ones among so many times, and some among so many texts
pub record ArePlacesFor (times texts : ℕ) (s : StoreView) (places : Places) : Type 0 where
  pub times_count : length places.times ≡ s.shape.times
  pub texts_count : length places.texts ≡ s.shape.texts
  pub in_times : ArePlaces places.times times
  pub in_texts : All (λ p. (0 < p) × (p ≤ texts)) places.texts

-- the residues at the places agree with those of the store's cell
pub record AgreesAt (s : StoreView) (places : List ℕ) (residues : List ℤ) (below : Cell) : Type 0 where
  pub each : (p : ℕ) → p ≤ s.shape.times → Divides (pos s.period) (node residues (target places p) -ℤ node below.residues p)

-- the cell of the store that has the cell's texts at the places, and residues that agree with those there
pub record IsCellBeneath (places : Places) (s : StoreView) (above below : Cell) : Type 0 where
  pub proper : IsCellOf s.shape s.period below
  pub residues : AgreesAt s places.times above.residues below
  pub texts : take s.shape.texts below.texts ≡ map (number_at above.texts) places.texts
