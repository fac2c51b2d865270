-- What a step makes of the tuples of one store, tuple by tuple.
use Rattle.std.specs.Prelude.{◌≡◌, ℕ, ℤ, List}
use Rattle.lrp_store.specs.Stores.{StoreView, InStore, HoldsJust, HasReach}

-- some tuple of the set is made into this one
pub record IsMadeFrom (makes : List ℤ → List ℕ → List ℤ → List ℕ → Type 0) (set : List ℤ → List ℕ → Type 0) (times : List ℤ) (texts : List ℕ) : Type 0 where
  pub old_times : List ℤ
  pub old_texts : List ℕ
  pub is : set old_times old_texts
  pub made : makes old_times old_texts times texts

-- a store of the old one's period that holds just what the step makes of its tuples, in zones whose reach is at most what `reach` says of the old ones'
pub record IsResult (makes : List ℤ → List ℕ → List ℤ → List ℕ → Type 0) (reach : ℕ → ℕ) (old new : StoreView) : Type 0 where
  pub period : new.period ≡ old.period
  pub same : HoldsJust (IsMadeFrom makes (InStore old)) new
  pub within : (high : ℕ) → HasReach old high → HasReach new (reach high)
