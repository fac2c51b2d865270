-- What of a zone is left where cutters are taken away, as tuples of a cell of a store.
use Rattle.std.specs.Prelude.{◌≡◌, ℕ, ℤ, List}
use Rattle.lrp_zone.specs.Zones.{ZoneView, IsMember}
use Rattle.lrp_store.specs.Settled.{InSome}

-- the times are in the zone and in no cutter, and the texts are these
pub record IsUncut (z : ZoneView) (cutters : List ZoneView) (named : List ℕ) (times : List ℤ) (texts : List ℕ) : Type 0 where
  pub member : IsMember z times
  pub none : InSome cutters times → ⊥
  pub same : named ≡ texts
