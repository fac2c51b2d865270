-- What of an interval is in none of others.
use Rattle.std.specs.Prelude.{◌≡◌, ◌⊎◌, ◌↔◌, ℕ, ℤ, ◌+◌, ◌≤◌, ◌<ℤ◌, ◌≤ℤ◌, List, [], ◌∷◌, ◌++◌, Option, Some, None, AllPairs, Contains}
use Rattle.lrp_theory.specs.Bounds.{Within}
use Rattle.lrp_matrix.specs.Ranges.{Above}
use Rattle.lrp_zone.specs.Zones.{ZoneView, IsZone, IsMember, reach_of}
use Rattle.lrp_zone.specs.Pairs.{IsOfCell}
use Rattle.lrp_store.specs.Settled.{InSome}
use Rattle.lrp_cutting.specs.declared.intervals.Interval.{Interval}
use Rattle.lrp_cutting.specs.Intervals.{HasSmallEnds, InInterval, IsNumber, IsIntervalZone, IsStoredInterval}

-- t is the lesser of an end and a number
pub record IsLesserOf (e : Option ℤ) (a t : ℤ) : Type 0 where
  pub one : (t ≡ a) ⊎ (e ≡ Some t)
  pub number : t ≤ℤ a
  pub end : Within t e

-- t is the greater of an end and a number
pub record IsGreaterOf (e : Option ℤ) (a t : ℤ) : Type 0 where
  pub one : (t ≡ a) ⊎ (e ≡ Some t)
  pub number : a ≤ℤ t
  pub end : Above t e

-- the last number of the interval is below its first one
pub record IsReversed (v : Interval) : Type 0 where
  pub start : ℤ
  pub starts : v.least ≡ Some start
  pub end : ℤ
  pub ends : v.most ≡ Some end
  pub back : end <ℤ start

-- the part holds the numbers x of v with P x, and is None where there are none; its ends are those of v, or lie a period beside those of w
pub record IsIntervalPart (z : ZoneView) (v w : Interval) (P : ℤ → Type 0) (part : Option Interval) : Type 0 where
  pub interval : (u : Interval) → part ≡ Some u → IsStoredInterval z u
  pub to : (u : Interval) → part ≡ Some u → (x : ℤ) → IsNumber z u x → IsNumber z v x × P x
  pub from : (x : ℤ) → IsNumber z v x → P x → (u : Interval) × (part ≡ Some u) × IsNumber z u x
  pub small : (u : Interval) → part ≡ Some u → (g h : ℕ) → h + z.period ≤ g → HasSmallEnds g v → HasSmallEnds h w → HasSmallEnds g u

-- the part holds the numbers of v below w
abbrev pub IsPartBelow : ZoneView → Interval → Interval → Option Interval → Type 0
IsPartBelow z v w part = IsIntervalPart z v w (λ x. Above x w.least → ⊥) part

-- the part holds the numbers of v above w
abbrev pub IsPartAbove : ZoneView → Interval → Interval → Option Interval → Type 0
IsPartAbove z v w part = IsIntervalPart z v w (λ x. Within x w.most → ⊥) part

-- the zone of the interval, if there is one, is appended to the zones
pub record AppendsSpan (z : ZoneView) (part : Option Interval) (old new : List ZoneView) : Type 0 where
  pub is : ((part ≡ None) × (new ≡ old)) ⊎ ((u : Interval) × (part ≡ Some u) × ((w : ZoneView) × IsIntervalZone z u w × (new ≡ old ++ w ∷ [])))

-- the numbers lie on the same side of each end of the intervals
pub record LieOnOneSide (cuts : List Interval) (x y : ℤ) : Type 0 where
  pub low : (u : Interval) → Contains cuts u → Above x u.least ↔ Above y u.least
  pub high : (u : Interval) → Contains cuts u → Within x u.most ↔ Within y u.most

-- no end of the intervals divides the numbers P of v: with each of them they have those of v on the same side of each end
abbrev pub HasNoEndWithin : ZoneView → Interval → List Interval → (ℤ → Type 0) → Type 0
HasNoEndWithin z v cuts P = (x y : ℤ) → P x → IsNumber z v y → LieOnOneSide cuts x y → P y

-- no number is in both zones
abbrev pub HaveNoNumber : ZoneView → ZoneView → Type 0
HaveNoNumber u w = (x : ℤ) → IsMember u (x ∷ []) → IsMember w (x ∷ []) → ⊥

-- the zones are disjoint, no end divides one, and they hold the numbers of v that are in none of the intervals
pub record AreGaps (z : ZoneView) (v : Interval) (cuts : List Interval) (zones : List ZoneView) : Type 0 where
  pub valid : (w : ZoneView) → Contains zones w → IsZone w × IsOfCell z w
  pub disjoint : AllPairs HaveNoNumber zones
  pub undivided : (w : ZoneView) → Contains zones w → HasNoEndWithin z v cuts (λ x. IsMember w (x ∷ []))
  pub to : (x : ℤ) → InSome zones (x ∷ []) → IsNumber z v x × (InInterval z cuts x → ⊥)
  pub from : (x : ℤ) → IsNumber z v x → (InInterval z cuts x → ⊥) → InSome zones (x ∷ [])
  pub reach : (g h : ℕ) → h + z.period ≤ g → HasSmallEnds g v → ((u : Interval) → Contains cuts u → HasSmallEnds h u) → (w : ZoneView) → Contains zones w → reach_of w ≤ g
