-- Tuples of a store that have none of another store beneath them, and what of a cell is cut away to leave these.
use Rattle.std.specs.Prelude.{◌≡◌, ℕ, ℤ, ◌+◌, ◌*◌, ◌-◌, ◌^◌, ◌≤◌, pos, List, map, length, take, Contains}
use Rattle.std.specs.FinMap as finite
use Rattle.lrp_theory.specs.Divides.{Divides}
use Rattle.lrp_theory.specs.Entries.{node}
use Rattle.lrp_model.specs.declared.tuples.Cell.{Cell}
use Rattle.lrp_zone.specs.Residues.{HasResidues}
use Rattle.lrp_zone.specs.Zones.{ZoneView, IsMember, reach_of}
use Rattle.lrp_store.specs.Growing.{GrowsByAtMost, IsAdded, IsRefused}
use Rattle.lrp_store.specs.Settled.{InSome}
use Rattle.lrp_store.specs.Stores.{StoreView, IsStore, IsCellOf, InCell, InStore, HasReach}
use Rattle.lrp_minus.specs.Beneath.{ArePlacesFor, HasBeneath}
use Rattle.lrp_minus.specs.Counts.{GrowsIn, HasAtMost, LiesInWideCell, cell_modulo, most_spared}
use Rattle.lrp_cutting.specs.Differences.{greatest_reach}
use Rattle.lrp_cutting.specs.Settling.{IsLike}
use Rattle.lrp_minus.specs.declared.differences.Difference.{Difference}
use Rattle.lrp_tables.specs.declared.names.Places.{Places}

-- a tuple of the left store that has none of the right one at the places
pub record IsSpared (places : Places) (left right : StoreView) (times : List ℤ) (texts : List ℕ) : Type 0 where
  pub held : InStore left times texts
  pub none : HasBeneath places right times texts → ⊥

-- one of a cell
pub record IsSparedIn (places : Places) (left : StoreView) (cell : Cell) (right : StoreView) (times : List ℤ) (texts : List ℕ) : Type 0 where
  pub held : InCell left cell times texts
  pub none : HasBeneath places right times texts → ⊥

-- the set is added to the store old, by bounds that are at most two of its periods greater than a reach that both stores have
abbrev pub IsAddedFrom : StoreView → StoreView → (List ℤ → List ℕ → Type 0) → ℕ → StoreView → StoreView → Type 0
IsAddedFrom left right set cap old new = (high : ℕ) → HasReach left high → HasReach right high → IsAdded set cap (high + 2 * old.period) old new

-- or it has a cell that would be one too many
abbrev pub IsRefusedFrom : StoreView → StoreView → (List ℤ → List ℕ → Type 0) → ℕ → StoreView → StoreView → Type 0
IsRefusedFrom left right set cap old new = (high : ℕ) → HasReach left high → HasReach right high → IsRefused set cap (high + 2 * old.period) old new

-- the zones of the right store reach no farther than this, and those of the left one no farther than that and the period less 1
pub record SidesHaveReach (left right : StoreView) (high : ℕ) : Type 0 where
  pub in_left : HasReach left (high + (left.period - 1))
  pub in_right : HasReach right high

-- the right store's columns have places among those of the left one, whose period is a multiple, and bounds of the right one can be turned in it
pub record CanCut (places : Places) (left right : StoreView) : Type 0 where
  pub right_store : IsStore right
  pub among : ArePlacesFor left.shape.times left.shape.texts right places
  pub multiple : Divides (pos right.period) (pos left.period)
  pub period : 2 * left.period ≤ 2 ^ 62
  pub reach : HasReach right (2 ^ 62 - 2 * left.period)

-- the same, and those of both can
pub record CanTake (places : Places) (left right : StoreView) : Type 0 where
  pub cut : CanCut places left right
  pub reach : SidesHaveReach left right (2 ^ 62 - 2 * left.period)

-- the right store's columns have places among those of the left one, k is a multiple of both periods, and bounds of both can be turned in it
pub record CanSubtract (places : Places) (left right : StoreView) (k : ℕ) : Type 0 where
  pub left_store : IsStore left
  pub right_store : IsStore right
  pub among : ArePlacesFor left.shape.times left.shape.texts right places
  pub left_multiple : Divides (pos left.period) (pos k)
  pub right_multiple : Divides (pos right.period) (pos k)
  pub period : 2 * k ≤ 2 ^ 62
  pub left_reach : HasReach left (2 ^ 62 - 2 * k)
  pub right_reach : HasReach right (2 ^ 62 - 2 * k)

-- ---- of a left store, a right one, places and a cap

-- a tuple of the left store that has none of the right one at the places
abbrev pub IsInDifference : Difference → List ℤ → List ℕ → Type 0
IsInDifference d = IsSpared d.places.now d.left.now d.right.now

-- a cell of the left store's shape and period
abbrev pub IsCellOfLeft : Difference → Cell → Type 0
IsCellOfLeft d cell = IsCellOf d.left.now.shape d.left.now.period cell

-- one of a cell
abbrev pub IsInDifferenceAt : Difference → Cell → List ℤ → List ℕ → Type 0
IsInDifferenceAt d cell = IsSparedIn d.places.now d.left.now cell d.right.now

-- the set is added
abbrev pub IsDifferenceAdded : Difference → (List ℤ → List ℕ → Type 0) → StoreView → StoreView → Type 0
IsDifferenceAdded d set old new = IsAddedFrom d.left.now d.right.now set d.cap old new

-- or it has a cell that would be one too many
abbrev pub IsDifferenceRefused : Difference → (List ℤ → List ℕ → Type 0) → StoreView → StoreView → Type 0
IsDifferenceRefused d set old new = IsRefusedFrom d.left.now d.right.now set d.cap old new

-- the set is added, by bounds that are at most two of the left store's periods greater than a reach that both stores have
abbrev pub IsSameAdded : Difference → (List ℤ → List ℕ → Type 0) → StoreView → StoreView → Type 0
IsSameAdded d set old new = (high : ℕ) → SidesHaveReach d.left.now d.right.now high → IsAdded set d.cap (high + 2 * d.left.now.period) old new

-- or it has a cell that would be one too many
abbrev pub IsSameRefused : Difference → (List ℤ → List ℕ → Type 0) → StoreView → StoreView → Type 0
IsSameRefused d set old new = (high : ℕ) → SidesHaveReach d.left.now d.right.now high → IsRefused set d.cap (high + 2 * d.left.now.period) old new

-- in the cell at most so many zones are added for each of the left store's
abbrev pub IsSameFew : Difference → Cell → StoreView → StoreView → Type 0
IsSameFew d cell old new = (n : ℕ) → HasAtMost n d.right.now → GrowsByAtMost (most_spared d.left.now n cell) cell old new

-- so it is in each cell that lies in the left store's, and in the others none is added
abbrev pub IsCellFew : Difference → Cell → StoreView → StoreView → Type 0
IsCellFew d cell old new = (n : ℕ) → HasAtMost n d.right.now → GrowsIn (LiesInWideCell d.left.now.period cell) (λ within. most_spared d.left.now n cell) old new

-- and so it is of all cells of the left store
abbrev pub IsDifferenceFew : Difference → StoreView → StoreView → Type 0
IsDifferenceFew d old new = (n : ℕ) → HasAtMost n d.right.now → GrowsIn (λ cell. Contains (finite.keys d.left.now.tables) (cell_modulo d.left.now.period cell)) (λ cell. most_spared d.left.now n (cell_modulo d.left.now.period cell)) old new

-- the difference can be added to out, a store of the left one's shape, in cells of its period
pub record CanSubtractIn (d : Difference) (out : StoreView) : Type 0 where
  pub valid : IsStore out
  pub shape : out.shape ≡ d.left.now.shape
  pub subtract : CanSubtract d.places.now d.left.now d.right.now out.period

-- the same, where the left store's period is that of out
pub record CanTakeIn (d : Difference) (out : StoreView) : Type 0 where
  pub store : IsStore d.left.now
  pub valid : IsStore out
  pub like : IsLike d.left.now out
  pub take : CanTake d.places.now d.left.now d.right.now

-- w holds the tuples with the residues rs modulo k that have one of z at the places
pub record IsCutter (z : ZoneView) (places : List ℕ) (k : ℤ) (rs : List ℤ) (w : ZoneView) : Type 0 where
  pub period : pos w.period ≡ k
  pub residues : w.residues ≡ rs
  pub to : (xs : List ℤ) → IsMember w xs → IsMember z (map (node xs) places)
  pub from : (xs : List ℤ) → length xs ≡ length rs → HasResidues k rs xs → IsMember z (map (node xs) places) → IsMember w xs
  pub reach : reach_of w ≤ reach_of z + (w.period - 1)

-- there is none
pub record HasNoCutter (z : ZoneView) (places : List ℕ) (k : ℤ) (rs : List ℤ) : Type 0 where
  pub none : (xs : List ℤ) → length xs ≡ length rs → HasResidues k rs xs → IsMember z (map (node xs) places) → ⊥

-- the cutters hold the tuples with the residues rs modulo k that have one of the zones at the places
pub record AreCutOf (zones : List ZoneView) (places : List ℕ) (k : ℕ) (rs : List ℤ) (cutters : List ZoneView) : Type 0 where
  pub period : (w : ZoneView) → Contains cutters w → w.period ≡ k
  pub residues : (w : ZoneView) → Contains cutters w → w.residues ≡ rs
  pub to : (xs : List ℤ) → InSome cutters xs → InSome zones (map (node xs) places)
  pub from : (xs : List ℤ) → length xs ≡ length rs → HasResidues (pos k) rs xs → InSome zones (map (node xs) places) → InSome cutters xs
  pub reach : greatest_reach cutters ≤ greatest_reach zones + (k - 1)
  pub few : length cutters ≤ length zones

-- the cutters hold the tuples of the left store's cell that have one of the right store at the places
pub record AreCutters (places : Places) (left : StoreView) (cell : Cell) (right : StoreView) (cutters : List ZoneView) : Type 0 where
  pub period : (w : ZoneView) → Contains cutters w → w.period ≡ left.period
  pub residues : (w : ZoneView) → Contains cutters w → w.residues ≡ take left.shape.times cell.residues
  pub to : (xs : List ℤ) → InSome cutters xs → HasBeneath places right xs (take left.shape.texts cell.texts)
  pub from : (xs : List ℤ) → length xs ≡ left.shape.times → HasResidues (pos left.period) (take left.shape.times cell.residues) xs → HasBeneath places right xs (take left.shape.texts cell.texts) → InSome cutters xs
  pub reach : (high : ℕ) → HasReach right high → greatest_reach cutters ≤ high + (left.period - 1)
  pub few : (n : ℕ) → HasAtMost n right → length cutters ≤ n
