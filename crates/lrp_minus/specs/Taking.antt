-- What is taken away from one zone, residue by residue.
use Rattle.std.specs.Prelude.{◌≡◌, ℕ, ℤ, ◌+◌, ◌*◌, ◌-◌, ◌^◌, ◌<◌, ◌≤◌, List, All, length, map, pos, slice_index_or, take, ◌-ℤ◌}
use Rattle.lrp_theory.specs.Divides.{Divides}
use Rattle.lrp_theory.specs.Entries.{node}
use Rattle.lrp_model.specs.declared.tuples.Cell.{Cell}
use Rattle.lrp_model.specs.declared.tuples.Shape.{Shape}
use Rattle.lrp_zone.specs.Spread.{target}
use Rattle.lrp_zone.specs.Zones.{ZoneView, IsZone, columns_of, reach_of}
use Rattle.lrp_store.specs.Growing.{IsAdded, IsRefused, IsTupleOf}
use Rattle.lrp_store.specs.Stores.{StoreView, IsInhabitedCell, IsStore, HasReach}
use Rattle.lrp_systems.specs.Choices.{AgreesAlong}
use Rattle.lrp_systems.specs.Frames.{IsFrame, IsNumbered}
use Rattle.lrp_systems.specs.Parts.{Fits, system_reach}
use Rattle.lrp_systems.specs.Systems.{IsBranch}
use Rattle.lrp_minus.specs.Beneath.{HasBeneath}
use Rattle.lrp_tables.specs.Calls.{number_at}
use Rattle.lrp_minus.specs.Counts.{GrowsIn, HasAtMost, most_by}
use Rattle.lrp_minus.specs.Cutters.{CanCut}
use Rattle.lrp_tables.specs.declared.names.Places.{Places}
use Rattle.lrp_minus.specs.declared.differences.Difference.{Difference}
use Rattle.lrp_minus.specs.declared.taking.Content.{Content}
use Rattle.lrp_minus.specs.declared.taking.Content.TheVariants.{Nothing, Everything}
use Rattle.lrp_minus.specs.declared.taking.Taking.{Taking}

-- a tuple of the zone with these texts that has none of the right store at the places
pub record IsLeftOf (places : Places) (z : ZoneView) (named : List ℕ) (right : StoreView) (times : List ℤ) (texts : List ℕ) : Type 0 where
  pub tuple : IsTupleOf z named times texts
  pub none : HasBeneath places right times texts → ⊥

-- a zone of the columns of s, whose tuples can be split among the cells of s
pub record CanBeSplit (z : ZoneView) (s : StoreView) : Type 0 where
  pub valid : IsZone z
  pub columns : columns_of z ≡ s.shape.times
  pub multiple : Divides (pos z.period) (pos s.period)
  pub reach : reach_of z ≤ 2 ^ 62 - 2 * s.period

-- what is left of the zone with the texts is added, by bounds that are at most two periods greater than a reach of both sides
abbrev pub IsTakenAdded : Difference → ZoneView → List ℕ → StoreView → StoreView → Type 0
IsTakenAdded d z texts old new = (high : ℕ) → reach_of z ≤ high → HasReach d.right.now high → IsAdded (IsLeftOf d.places.now z (take old.shape.texts texts) d.right.now) d.cap (high + 2 * old.period) old new

-- or it has a cell that would be one too many
abbrev pub IsTakenRefused : Difference → ZoneView → List ℕ → StoreView → StoreView → Type 0
IsTakenRefused d z texts old new = (high : ℕ) → reach_of z ≤ high → HasReach d.right.now high → IsRefused (IsLeftOf d.places.now z (take old.shape.texts texts) d.right.now) d.cap (high + 2 * old.period) old new

-- where no cell of the right store has more than n zones, each cell in which the zone has a tuple with these texts has at most as many more as n cutters leave of a zone, and the others have none more
abbrev pub IsTakenFew : Difference → ZoneView → List ℕ → StoreView → StoreView → Type 0
IsTakenFew d z texts old new = (n : ℕ) → HasAtMost n d.right.now → GrowsIn (IsInhabitedCell old.shape old.period (IsTupleOf z (take old.shape.texts texts))) (λ cell. most_by old.shape.times n) old new

-- a solution of the system with the residues of the cell at its first p columns, and the cell's texts, that has none of the right store at the places
pub record IsLeftIn (t : Taking) (shape : Shape) (k : ℕ) (cell : Cell) (p : ℕ) (times : List ℤ) (texts : List ℕ) : Type 0 where
  pub branch : IsBranch t.parts.now shape k t.frame.now.order cell p times texts
  pub none : HasBeneath t.places.now t.right.now times texts → ⊥

-- the frame is that of the parts, with the columns in order, no place is after the last one, and bounds of both sides can be turned in cells of the store s
pub record IsSubtraction (t : Taking) (s : StoreView) : Type 0 where
  pub store : IsStore s
  pub fits : All (Fits s.shape.times s.period) t.parts.now
  pub frame : IsFrame t.parts.now s.shape.times s.period t.frame.now
  pub order : IsNumbered t.frame.now.order
  pub last : (i : ℕ) → i < length t.places.now.times → slice_index_or t.places.now.times i 0 ≤ t.last
  pub reach : system_reach s.period t.parts.now ≤ 2 ^ 62 - s.period
  pub cut : CanCut t.places.now s t.right.now

-- where no cell of the right store has more than n zones, each cell in which a solution with the first p residues of the cell lies has at most as many more as n cutters leave of a zone, and the others have none more
abbrev pub IsPartFew : Taking → Cell → ℕ → StoreView → StoreView → Type 0
IsPartFew t cell p old new = (n : ℕ) → HasAtMost n t.right.now → GrowsIn (IsInhabitedCell old.shape old.period (IsBranch t.parts.now old.shape old.period t.frame.now.order cell p)) (λ inhabited. most_by old.shape.times n) old new

-- the zones of the right store reach no farther than this, and the parts' pieces no farther than that and the period
pub record HasPartsWithin (t : Taking) (k high : ℕ) : Type 0 where
  pub parts : system_reach k t.parts.now ≤ high + k
  pub right : HasReach t.right.now high

-- at the places the values are equal to the cell's residues modulo k, and the texts are the cell's
pub record AgreesBeneath (places : Places) (k : ℕ) (cell : Cell) (times : List ℤ) (texts : List ℕ) : Type 0 where
  pub residues : (p : ℕ) → p ≤ length places.times → Divides (pos k) (node times (target places.times p) -ℤ node cell.residues (target places.times p))
  pub named : map (number_at texts) places.texts ≡ map (number_at cell.texts) places.texts

-- where the content is nothing, no tuple that agrees with the cell is held beneath, and where it is everything, each is
pub record IsContentBeneath (places : Places) (right : StoreView) (cell : Cell) (content : Content) : Type 0 where
  pub nothing : content ≡ Nothing → (times : List ℤ) (texts : List ℕ) → AgreesBeneath places right.period cell times texts → HasBeneath places right times texts → ⊥
  pub everything : content ≡ Everything → (times : List ℤ) (texts : List ℕ) → AgreesBeneath places right.period cell times texts → HasBeneath places right times texts

-- the same of the tuples that have the residues of the cell up to column p, and its first n texts
pub record IsContentOf (t : Taking) (k n : ℕ) (cell : Cell) (p : ℕ) (content : Content) : Type 0 where
  pub nothing : content ≡ Nothing → (times : List ℤ) (texts : List ℕ) → AgreesAlong k t.frame.now.order cell.residues p times → take n cell.texts ≡ texts → HasBeneath t.places.now t.right.now times texts → ⊥
  pub everything : content ≡ Everything → (times : List ℤ) (texts : List ℕ) → AgreesAlong k t.frame.now.order cell.residues p times → take n cell.texts ≡ texts → HasBeneath t.places.now t.right.now times texts
