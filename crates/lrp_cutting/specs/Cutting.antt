-- Zones and cutters of one cell.
use Rattle.std.specs.Prelude.{ℕ, ℤ, ◌+◌, ◌<◌, ◌≤◌, List, Contains}
use Rattle.lrp_model.specs.declared.relations.Bound.{Bound}
use Rattle.lrp_zone.specs.Zones.{ZoneView, IsZone, IsMember, columns_of}
use Rattle.lrp_zone.specs.Pairs.{IsMeet, IsWithin}
use Rattle.lrp_cutting.specs.declared.pairs.NodePair.{NodePair}
use Rattle.lrp_cutting.specs.Differences.{greatest_reach}

-- the greatest magnitude of a side of a threshold
abbrev pub side_reach : ℕ → List ZoneView → ℕ
side_reach k cutters = greatest_reach cutters + k

-- the pair is one of two different columns of z, the lesser first
pub record IsPairOf (z : ZoneView) (p : NodePair) : Type 0 where
  pub rising : p.left < p.right
  pub high : p.right ≤ columns_of z

-- the bound on the pair whose threshold is t
abbrev pub lower_side : NodePair → ℤ → Bound
lower_side p t = record { left = p.left; right = p.right; most = t }

-- some tuple is in both zones
pub record HaveCommon (v w : ZoneView) : Type 0 where
  pub common : List ℤ
  pub left : IsMember v common
  pub right : IsMember w common

-- z is the zone of the tuples that v and w have in common
pub record IsCommonZone (v w z : ZoneView) : Type 0 where
  pub valid : IsZone z
  pub meet : IsMeet v w z

-- the zone lies within one of the cutters
pub record IsWithinOne (z : ZoneView) (cutters : List ZoneView) : Type 0 where
  pub cutter : ZoneView
  pub listed : Contains cutters cutter
  pub within : IsWithin z cutter
