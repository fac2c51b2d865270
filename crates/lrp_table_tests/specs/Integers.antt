-- Zones of integers.
use Rattle.std.specs.Prelude.{◌≡◌, ◌+◌, ◌≤◌, ℕ, ◌^◌, List, [], ◌∷◌, Contains, pos}
use Rattle.lrp_zone.specs.Zones.{ZoneView, reach_of}
use Rattle.lrp_store.specs.Stores.{HasReach, StoreView}

-- a zone of one column and of period 1, which has room up to a number
pub record IsOfIntegers (high : ℕ) (z : ZoneView) : Type 0 where
  pub period : z.period ≡ 1
  pub residues : z.residues ≡ pos 0 ∷ []
  pub reach : reach_of z + z.period ≤ high

-- each of the zones is one
pub record AreOfIntegers (high : ℕ) (zones : List ZoneView) : Type 0 where
  pub each : (z : ZoneView) → Contains zones z → IsOfIntegers high z

-- a store of integers: one time, no text, and zones of period 1 that reach no farther than the limit
pub record HoldsIntegers (s : StoreView) : Type 0 where
  pub times : s.shape.times ≡ 1
  pub texts : s.shape.texts ≡ 0
  pub period : s.period ≡ 1
  pub reach : HasReach s (2 ^ 62)
