-- What a step makes of tuples of times and numbers of texts.
use Rattle.std.specs.Prelude.{◌≡◌, ◌⊎◌, ℕ, ℤ, pos, ◌+◌, ◌*◌, ◌<◌, List, Some, Contains, length, slice_get}
use Rattle.std.specs.FinMap as finite
use Rattle.std.specs.List.{insert}
use Rattle.lrp_model.specs.declared.tuples.Cell.{Cell}
use Rattle.lrp_model.specs.Texts.{Identifier, Text}
use Rattle.lrp_store.specs.Stores.{StoreView, IsStore}
use Rattle.lrp_tables.specs.declared.table.Table.{Table}
use Rattle.lrp_tables.specs.Passes.{IsResult}
use Rattle.lrp_steps.specs.Columns.{IsCut}

-- the tuple without the time at a place
pub record IsWithoutTime (place : ℕ) (old_times : List ℤ) (old_texts : List ℕ) (times : List ℤ) (texts : List ℕ) : Type 0 where
  pub value : ℤ
  pub times_are : old_times ≡ insert times place value
  pub texts_are : old_texts ≡ texts

-- the cell without the time at a place
pub record IsCellWithoutTime (place : ℕ) (old new : Cell) : Type 0 where
  pub texts : new.texts ≡ old.texts
  pub residues : IsCut (pos 0) place old.residues new.residues

-- the tuple without the text at a place, whose number is below the size
pub record IsWithoutText (place size : ℕ) (old_times : List ℤ) (old_texts : List ℕ) (times : List ℤ) (texts : List ℕ) : Type 0 where
  pub value : ℕ
  pub known : value < size
  pub times_are : old_times ≡ times
  pub texts_are : old_texts ≡ insert texts place value

-- the tuples of old without the time at a place
pub record IsStoreWithoutTime (place : ℕ) (old new : StoreView) : Type 0 where
  pub valid : IsStore new
  pub times : new.shape.times + 1 ≡ old.shape.times
  pub texts : new.shape.texts ≡ old.shape.texts
  pub made : IsResult (IsWithoutTime place) (λ high. 2 * high) old new

-- the tuples of old without the text at a place, where its number is below the size
pub record IsStoreWithoutText (place size : ℕ) (old new : StoreView) : Type 0 where
  pub valid : IsStore new
  pub times : new.shape.times ≡ old.shape.times
  pub texts : new.shape.texts + 1 ≡ old.shape.texts
  pub made : IsResult (IsWithoutText place size) (λ high. high) old new

-- a copy, or no tuple where the domain has no text
abbrev pub IsCopyOrEmpty : List Text → StoreView → StoreView → Type 0
IsCopyOrEmpty domain old new = ((new ≡ record old { spare = new.spare }) × (0 < length domain)) ⊎ ((new.shape ≡ old.shape) × (new.period ≡ old.period) × (new.tables ≡ finite.empty) × (length domain ≡ 0))

-- the store without the column of the name, where there is one
abbrev pub IsStoreWithoutName : List Text → Identifier → Table → StoreView → Type 0
IsStoreWithoutName domain name old new =
    ((place : ℕ) × (slice_get old.vars.texts place ≡ Some name) × IsStoreWithoutText place (length domain) old.store new) ⊎ ((Contains old.vars.texts name → ⊥) × IsCopyOrEmpty domain old.store new)
