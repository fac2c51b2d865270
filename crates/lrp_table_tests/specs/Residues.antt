-- Stores of whole residues.
use Rattle.std.specs.Prelude.{◌≡◌, ℕ}
use Rattle.lrp_store.specs.Stores.{HasReach, StoreView}

-- a store of one time and no text, whose zones have no bounds
pub record HoldsResidues (k : ℕ) (s : StoreView) : Type 0 where
  pub times : s.shape.times ≡ 1
  pub texts : s.shape.texts ≡ 0
  pub period : s.period ≡ k
  pub reach : HasReach s 0
