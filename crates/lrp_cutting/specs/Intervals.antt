-- Zones of one column as intervals of the numbers of a cell.
use Rattle.std.specs.Prelude.{◌≡◌, ℕ, ℤ, ◌+◌, ◌^◌, ◌≤◌, ◌⊎◌, List, [], ◌∷◌, ◌++◌, Option, Some, None, Contains, AllPairs, pos, nat_abs, ◌+ℤ◌, ◌-ℤ◌, ◌<ℤ◌}
use Rattle.lrp_theory.specs.Bounds.{Within}
use Rattle.lrp_theory.specs.Divides.{Divides}
use Rattle.lrp_theory.specs.Entries.{entry, node, AtMost}
use Rattle.lrp_matrix.specs.Ranges.{Above, negation}
use Rattle.lrp_model.specs.declared.relations.Bound.{Bound}
use Rattle.lrp_zone.specs.Zones.{ZoneView, IsZone, IsMember, columns_of, reach_of}
use Rattle.lrp_zone.specs.Pairs.{IsOfCell}
use Rattle.lrp_store.specs.Settled.{InSome}
use Rattle.lrp_cutting.specs.declared.intervals.Interval.{Interval}
use Rattle.lrp_cutting.specs.Thresholds.{bound_there}

-- the interval of a zone with one column, whose stored bounds are its ends
abbrev pub span_of : ZoneView → Interval
span_of z = record { least = negation (entry z.bounds 0 1); most = entry z.bounds 1 0 }

-- the bounds that the ends of an interval are
abbrev pub ends_of : Interval → List Bound
ends_of v = bound_there 0 1 (negation v.least) ++ bound_there 1 0 v.most

-- x is a number of the cell of z, which has one column, and lies between the ends
pub record IsNumber (z : ZoneView) (v : Interval) (x : ℤ) : Type 0 where
  pub residue : Divides (pos z.period) (x -ℤ node z.residues 1)
  pub low : Above x v.least
  pub high : Within x v.most

-- an end is a number of the cell, and a period more or less can be stored
abbrev pub IsIntervalEnd : ZoneView → Option ℤ → Type 0
IsIntervalEnd z None = Unit {0}
IsIntervalEnd z (Some a) = Divides (pos z.period) (a -ℤ node z.residues 1) × (nat_abs a + z.period ≤ 2 ^ 62)

-- both ends are such, and some number lies between them
pub record IsInterval (z : ZoneView) (v : Interval) : Type 0 where
  pub least : IsIntervalEnd z v.least
  pub most : IsIntervalEnd z v.most
  pub number : ℤ
  pub is : IsNumber z v number

-- an end is a number of the cell, and can be stored
abbrev pub IsStoredEnd : ZoneView → Option ℤ → Type 0
IsStoredEnd z None = Unit {0}
IsStoredEnd z (Some a) = Divides (pos z.period) (a -ℤ node z.residues 1) × (nat_abs a ≤ 2 ^ 62)

-- both ends are such, and some number lies between them
pub record IsStoredInterval (z : ZoneView) (v : Interval) : Type 0 where
  pub least : IsStoredEnd z v.least
  pub most : IsStoredEnd z v.most
  pub number : ℤ
  pub is : IsNumber z v number

-- the magnitudes of the ends are at most h
pub record HasSmallEnds (h : ℕ) (v : Interval) : Type 0 where
  pub least : AtMost h v.least
  pub most : AtMost h v.most

-- v begins no later than w
pub record BeginsBy (v w : Interval) : Type 0 where
  pub each : (x : ℤ) → Above x w.least → Above x v.least

-- the second interval begins more than a period after the end of the first: a number of the cell lies between them
pub record LiesApart (k : ℕ) (v w : Interval) : Type 0 where
  pub end : ℤ
  pub ends : v.most ≡ Some end
  pub start : ℤ
  pub starts : w.least ≡ Some start
  pub gap : (end +ℤ pos k) <ℤ start

-- joined is the interval of the numbers of two, of which the first begins no later
pub record IsJoinedInterval (z : ZoneView) (v w joined : Interval) : Type 0 where
  pub interval : IsInterval z joined
  pub begins : joined.least ≡ v.least
  pub to : (x : ℤ) → IsNumber z joined x → IsNumber z v x ⊎ IsNumber z w x
  pub from : (x : ℤ) → IsNumber z v x ⊎ IsNumber z w x → IsNumber z joined x
  pub small : (h : ℕ) → HasSmallEnds h v → HasSmallEnds h w → HasSmallEnds h joined

-- w is the zone of the interval
pub record IsIntervalZone (z : ZoneView) (v : Interval) (w : ZoneView) : Type 0 where
  pub valid : IsZone w
  pub cell : IsOfCell z w
  pub to : (x : ℤ) → IsMember w (x ∷ []) → IsNumber z v x
  pub from : (x : ℤ) → IsNumber z v x → IsMember w (x ∷ [])
  pub reach : (h : ℕ) → HasSmallEnds h v → reach_of w ≤ h

-- x is a number of some of the intervals
pub record InInterval (z : ZoneView) (vs : List Interval) (x : ℤ) : Type 0 where
  pub interval : Interval
  pub listed : Contains vs interval
  pub is : IsNumber z interval x

-- each number of u, and a period more, is below each of v
pub record IsFarBelow (u v : ZoneView) : Type 0 where
  pub far : (x y : ℤ) → IsMember u (x ∷ []) → IsMember v (y ∷ []) → (x +ℤ pos u.period) <ℤ y

-- each zone is far after the one before it
abbrev pub AreFarInTurn : ZoneView → List ZoneView → Type 0
AreFarInTurn z [] = Unit {0}
AreFarInTurn z (w ∷ ws) = IsFarBelow z w × AreFarInTurn w ws

-- a zone of this period with one column, whose bounds leave room for the period
pub record IsOnLine (period : ℤ) (z : ZoneView) : Type 0 where
  pub valid : IsZone z
  pub column : columns_of z ≡ 1
  pub period_is : period ≡ pos z.period
  pub room : reach_of z + z.period ≤ 2 ^ 62

-- the zones hold the numbers of the intervals, ascending, and a number of the cell lies between each two
pub record AreMerged (z : ZoneView) (vs : List Interval) (zones : List ZoneView) : Type 0 where
  pub valid : (w : ZoneView) → Contains zones w → IsZone w × IsOfCell z w
  pub far : AllPairs IsFarBelow zones
  pub to : (x : ℤ) → InSome zones (x ∷ []) → InInterval z vs x
  pub from : (x : ℤ) → InInterval z vs x → InSome zones (x ∷ [])
  pub reach : (h : ℕ) → ((v : Interval) → Contains vs v → HasSmallEnds h v) → (w : ZoneView) → Contains zones w → reach_of w ≤ h
