-- The numbers of one time column that parts cover, residue by residue.
use Rattle.std.specs.Prelude.{◌≡◌, ◌<◌, ℕ, ℤ, pos, ◌-ℤ◌, List, [], ◌∷◌, Option, Some, Bool, true, length, replicate, slice_get, Contains}
use Rattle.lrp_theory.specs.Divides.{Divides}
use Rattle.lrp_model.specs.declared.tuples.Cell.{Cell}
use Rattle.lrp_model.specs.Texts.{Text}
use Rattle.lrp_store.specs.Stores.{BeginsWhole, HasReach, InStore, IsStore, StoreView, tables_at}
use Rattle.lrp_tables.specs.declared.table.Table.{Table}
use Rattle.lrp_periods.specs.Parts.{HasSome, IsPartOfSet, part_times, part_texts}
use Rattle.lrp_periods.specs.Sets.{IsComplementOf}
use Rattle.lrp_periods.specs.declared.sieves.Cover.{Cover}

-- the cell of a residue of one time column
abbrev pub line_cell : ℕ → Cell
line_cell residue = record { texts = replicate 8 0; residues = pos residue ∷ replicate 7 (pos 0) }

-- each cell that is held begins with the zone without bounds
abbrev pub HasWholeCells : StoreView → Type 0
HasWholeCells s = (cell : Cell) (table : List (Option ℤ)) → Contains (tables_at s cell) table → BeginsWhole s cell

-- a store over one time column and no other
pub record IsLineStore (s : StoreView) : Type 0 where
  pub valid : IsStore s
  pub times : s.shape.times ≡ 1
  pub texts : s.shape.texts ≡ 0

-- parts over one time column and no other, with whole cells
pub record CanBeSifted (parts : List Table) : Type 0 where
  pub times : length (part_times parts) ≡ 1
  pub texts : part_texts parts ≡ []
  pub whole : (part : Table) → Contains parts part → HasWholeCells part.store

-- a part of this period that has just the assignments that none of the parts has, and no bounds
pub record IsSifted (domain : List Text) (period : ℤ) (parts : List Table) (made : Table) : Type 0 where
  pub part : IsPartOfSet domain (part_times parts) (part_texts parts) period (IsComplementOf domain (part_texts parts) (HasSome domain parts)) made
  pub period_is : pos made.store.period ≡ period
  pub free : HasReach made.store 0

-- the number has a residue that is marked
pub record IsCoveredNumber (cover : Cover) (x : ℤ) : Type 0 where
  pub residue : ℕ
  pub marked : slice_get cover.residues residue ≡ Some true
  pub is : Divides (pos (length cover.residues)) (x -ℤ pos residue)

-- those of the residues whose cells begin with the zone without bounds are marked
pub record MarksWhole (s : StoreView) (marks : List Bool) : Type 0 where
  pub sound : (r : ℕ) → slice_get marks r ≡ Some true → BeginsWhole s (line_cell r)
  pub whole : (r : ℕ) → r < length marks → BeginsWhole s (line_cell r) → slice_get marks r ≡ Some true

-- the store has just the numbers that are covered
pub record IsCoverOf (s : StoreView) (cover : Cover) : Type 0 where
  pub count : length cover.residues ≡ s.period
  pub sound : (x : ℤ) → IsCoveredNumber cover x → InStore s (x ∷ []) []
  pub whole : (x : ℤ) → InStore s (x ∷ []) [] → IsCoveredNumber cover x

-- a cover for each part, and no others
pub record AreCoversOf (parts : List Table) (covers : List Cover) : Type 0 where
  pub of_cover : (cover : Cover) → Contains covers cover → (part : Table) × Contains parts part × IsCoverOf part.store cover
  pub of_part : (part : Table) → Contains parts part → (cover : Cover) × Contains covers cover × IsCoverOf part.store cover

-- no cover has the number
abbrev pub IsOpen : List Cover → ℤ → Type 0
IsOpen covers x = (cover : Cover) → Contains covers cover → IsCoveredNumber cover x → ⊥

-- one of them has
abbrev pub IsShut : List Cover → ℤ → Type 0
IsShut covers x = (cover : Cover) × Contains covers cover × IsCoveredNumber cover x

-- one number that no cover has
pub record IsLeftOpen (covers : List Cover) (times : List ℤ) (texts : List ℕ) : Type 0 where
  pub number : ℤ
  pub times_are : times ≡ number ∷ []
  pub none : texts ≡ []
  pub uncovered : IsOpen covers number

-- covers whose periods divide this one, and a store of it over one time column
pub record CanSift (covers : List Cover) (own : ℕ) (out : StoreView) : Type 0 where
  pub line : IsLineStore out
  pub period_is : out.period ≡ own
  pub low : 0 < own
  pub divide : (cover : Cover) → Contains covers cover → Divides (pos (length cover.residues)) (pos own)
  pub some : (cover : Cover) → Contains covers cover → 0 < length cover.residues
