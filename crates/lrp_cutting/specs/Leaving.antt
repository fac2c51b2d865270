-- What of zones is left where cutters are taken away one after another.
use Rattle.std.specs.Prelude.{◌≡◌, ℕ, ℤ, ◌+◌, ◌<◌, ◌≤◌, ◌⊎◌, ◌++◌, ◌↔◌, List, [], ◌∷◌, AllPairs, Contains, Some, length, max}
use Rattle.lrp_theory.specs.Entries.{entry}
use Rattle.lrp_model.specs.declared.relations.Bound.{Bound}
use Rattle.lrp_zone.specs.Zones.{ZoneView, IsZone, IsMember, columns_of, reach_of}
use Rattle.lrp_zone.specs.Pairs.{IsOfCell, HaveNoCommon}
use Rattle.lrp_store.specs.Settled.{InSome}
use Rattle.lrp_cutting.specs.declared.pairs.NodePair.{NodePair}
use Rattle.lrp_cutting.specs.Cutting.{IsPairOf, lower_side}
use Rattle.lrp_cutting.specs.Halves.{IsWithinBound}
use Rattle.lrp_cutting.specs.Thresholds.{all_thresholds}

-- the bound stands in the zone
pub record IsStoredBound (z : ZoneView) (b : Bound) : Type 0 where
  pub left : b.left ≤ columns_of z
  pub right : b.right ≤ columns_of z
  pub is : entry z.bounds b.left b.right ≡ Some b.most

-- the bounds are the stored ones of the zone
pub record AreBoundsOf (z : ZoneView) (bs : List Bound) : Type 0 where
  pub each : (b : Bound) → Contains bs b → IsStoredBound z b
  pub all : (b : Bound) → IsStoredBound z b → Contains bs b

-- the new bounds are the old ones and those of the zone that stand in row i before column n
pub record AreFromRow (z : ZoneView) (i n : ℕ) (old new : List Bound) : Type 0 where
  pub each : (b : Bound) → Contains new b → Contains old b ⊎ IsStoredBound z b
  pub kept : (b : Bound) → Contains old b → Contains new b
  pub row : (b : Bound) → IsStoredBound z b → b.left ≡ i → b.right < n → Contains new b

-- the tuples are on the same side of each threshold of the cutters along each pair of columns of z
pub record LieAlike (z : ZoneView) (cutters : List ZoneView) (xs ys : List ℤ) : Type 0 where
  pub each : (p : NodePair) → IsPairOf z p → (t : ℤ) → Contains (all_thresholds z.period p cutters) t → IsWithinBound (lower_side p t) xs ↔ IsWithinBound (lower_side p t) ys

-- no threshold divides w: it holds, with each of its tuples, those of z that lie alike
pub record IsUndivided (z : ZoneView) (cutters : List ZoneView) (w : ZoneView) : Type 0 where
  pub each : (xs ys : List ℤ) → IsMember w xs → IsMember z ys → LieAlike z cutters xs ys → IsMember w ys

-- some tuple of the zone is in no cutter
pub record HasGap (z : ZoneView) (cutters : List ZoneView) : Type 0 where
  pub tuple : List ℤ
  pub inside : IsMember z tuple
  pub none : InSome cutters tuple → ⊥

-- the pieces are disjoint zones of the cell of z, of a reach of at most h, which no threshold divides in z, and hold just the tuples of the parts that are in no cutter
pub record AreLeftOf (z : ZoneView) (parts cutters : List ZoneView) (h : ℕ) (pieces : List ZoneView) : Type 0 where
  pub zones : (w : ZoneView) → Contains pieces w → IsZone w × IsOfCell z w
  pub disjoint : AllPairs HaveNoCommon pieces
  pub undivided : (w : ZoneView) → Contains pieces w → IsUndivided z cutters w
  pub to : (xs : List ℤ) → InSome pieces xs → InSome parts xs × (InSome cutters xs → ⊥)
  pub from : (xs : List ℤ) → InSome parts xs → (InSome cutters xs → ⊥) → InSome pieces xs
  pub reach : (w : ZoneView) → Contains pieces w → reach_of w ≤ h

-- the sides are what of z is outside one of the cutters
pub record AreOutsideOne (z : ZoneView) (cutters sides : List ZoneView) : Type 0 where
  pub cutter : ZoneView
  pub listed : Contains cutters cutter
  pub left : AreLeftOf z (z ∷ []) (cutter ∷ []) (max (reach_of z) (reach_of cutter + z.period)) sides

-- such pieces are appended to a list
pub record AppendsLeft (z : ZoneView) (parts cutters : List ZoneView) (h : ℕ) (old new : List ZoneView) : Type 0 where
  pub pieces : List ZoneView
  pub appended : new ≡ old ++ pieces
  pub left : AreLeftOf z parts cutters h pieces

-- the cutters that the zone meets: fewer where it meets not all
pub record AreMeeting (z : ZoneView) (cutters met : List ZoneView) : Type 0 where
  pub listed : (w : ZoneView) → Contains met w → Contains cutters w
  pub whole : (xs : List ℤ) → IsMember z xs → InSome cutters xs → InSome met xs
  pub few : length met ≤ length cutters
  pub fewer : (w : ZoneView) → Contains cutters w → HaveNoCommon z w → length met < length cutters
