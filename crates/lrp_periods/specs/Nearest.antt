-- The first number of one time column that no part has, in the order 0, 1, -1, 2, -2 and so on.
use Rattle.std.specs.Prelude.{◌≡◌, ◌<◌, ◌≤◌, ℕ, ℤ, pos, ◌-ℤ◌, List, [], ◌∷◌, Option, Some, IfSome, Contains, length}
use Rattle.lrp_theory.specs.Divides.{Divides}
use Rattle.lrp_theory.specs.Residues.{rank}
use Rattle.lrp_model.specs.Texts.{Identifier, Text}
use Rattle.lrp_model.specs.Satisfaction.{Assignment}
use Rattle.lrp_store.specs.Stores.{HasReach, InStore, StoreView}
use Rattle.lrp_tables.specs.declared.table.Table.{Table}
use Rattle.lrp_tables.specs.Tables.{HasAssignment}
use Rattle.lrp_periods.specs.Parts.{HasSome, IsPeriodPart, part_texts, part_times}
use Rattle.lrp_periods.specs.Sets.{IsComplementOf}
use Rattle.lrp_periods.specs.Sieves.{IsOpen}
use Rattle.lrp_periods.specs.declared.sieves.Cover.{Cover}

-- the number of this rank has the residue
pub record HasRankedResidue (own place residue : ℕ) : Type 0 where
  pub number : ℤ
  pub ranked : rank number ≡ place
  pub low : residue < own
  pub is : Divides (pos own) (number -ℤ pos residue)

-- a number of the residue, where there is one
pub record IsOfResidue (own : ℕ) (found : Option ℕ) (times : List ℤ) (texts : List ℕ) : Type 0 where
  pub number : ℤ
  pub times_are : times ≡ number ∷ []
  pub none : texts ≡ []
  pub residue : ℕ
  pub found_is : found ≡ Some residue
  pub is : Divides (pos own) (number -ℤ pos residue)

-- covers whose periods divide this one
pub record AreCoversWithin (own : ℕ) (covers : List Cover) : Type 0 where
  pub low : 0 < own
  pub divide : (cover : Cover) → Contains covers cover → Divides (pos (length cover.residues)) (pos own)
  pub some : (cover : Cover) → Contains covers cover → 0 < length cover.residues

-- no cover has the residue that was found, which has a number before or at each one that no cover has
pub record IsNearestOpen (covers : List Cover) (own : ℕ) (found : Option ℕ) : Type 0 where
  pub low : IfSome found (λ residue. residue < own)
  pub uncovered : IfSome found (λ residue. IsOpen covers (pos residue))
  pub near : (x : ℤ) → IsOpen covers x → (y : ℤ) × IsOfResidue own found (y ∷ []) [] × (rank y ≤ rank x)

-- the store has a number that is no farther than the assignment's value of each of the variables
abbrev pub HasNoFarther : List Identifier → StoreView → Assignment → Type 0
HasNoFarther times s env = (y : ℤ) × InStore s (y ∷ []) [] × ((v : Identifier) → Contains times v → rank y ≤ rank (env.times v))

-- a part of this period without bounds, of what none of the parts has; where there is something, it has what is nearest
pub record IsNearestLeft (domain : List Text) (period : ℤ) (parts : List Table) (made : Table) : Type 0 where
  pub part : IsPeriodPart domain (part_times parts) (part_texts parts) period made
  pub sound : (env : Assignment) → HasAssignment made domain env → IsComplementOf domain (part_texts parts) (HasSome domain parts) env
  pub near : (env : Assignment) → IsComplementOf domain (part_texts parts) (HasSome domain parts) env → HasNoFarther (part_times parts) made.store env
  pub free : HasReach made.store 0
