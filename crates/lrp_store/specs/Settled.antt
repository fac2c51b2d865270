-- When the zones of a cell are settled: each set of tuples of one cell has them in one way where it has at most one column.
use Rattle.std.specs.Prelude.{◌≡◌, ℤ, ◌<◌, ◌↔◌, List, [], ◌∷◌, length, Contains, AllPairs, ◌<ℤ◌}
use Rattle.lrp_zone.specs.Zones.{ZoneView, IsZone, IsMember, columns_of}
use Rattle.lrp_zone.specs.Pairs.{IsOfCell, IsWithin}

-- some of the zones has the tuple
pub record InSome (zones : List ZoneView) (xs : List ℤ) : Type 0 where
  pub zone : ZoneView
  pub listed : Contains zones zone
  pub inside : IsMember zone xs

-- the zones together hold just the tuples of this one
pub record AreOneZone (zones : List ZoneView) (z : ZoneView) : Type 0 where
  pub is : IsZone z
  pub within : (xs : List ℤ) → InSome zones xs → IsMember z xs
  pub whole : (xs : List ℤ) → IsMember z xs → InSome zones xs

-- each number of v is below each of w
abbrev pub LiesBelow : ZoneView → ZoneView → Type 0
LiesBelow v w = (x y : ℤ) → IsMember v (x ∷ []) → IsMember w (y ∷ []) → x <ℤ y

-- the zones are the maximal intervals of their set, ascending: a zone of their cell that lies within the set lies within one of them
pub record AreIntervals (zones : List ZoneView) : Type 0 where
  pub ascending : AllPairs LiesBelow zones
  pub maximal : (w v : ZoneView) → Contains zones v → IsZone w → IsOfCell v w → ((xs : List ℤ) → IsMember w xs → InSome zones xs) → (u : ZoneView) × Contains zones u × IsWithin w u

-- neither zone lies within the other one
pub record AreIncomparable (v w : ZoneView) : Type 0 where
  pub forth : IsWithin v w → ⊥
  pub back : IsWithin w v → ⊥

-- no zone of the list lies within another one of it: they are an antichain, in which equal ones stand once
abbrev pub IsAntichain : List ZoneView → Type 0
IsAntichain zones = AllPairs AreIncomparable zones

-- the zones of the cell of z are one where there is no column, the maximal intervals where there is one, and else an antichain, and one exactly where the set is that of one zone of the cell
pub record AreSettled (z : ZoneView) (zones : List ZoneView) : Type 0 where
  pub none : columns_of z ≡ 0 → length zones ≡ 1
  pub one : columns_of z ≡ 1 → AreIntervals zones
  pub more : 1 < columns_of z → ((length zones ≡ 1) ↔ ((w : ZoneView) × IsOfCell z w × AreOneZone zones w))
  pub antichain : 1 < columns_of z → IsAntichain zones
