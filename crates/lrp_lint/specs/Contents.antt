-- What a row asks of its times: points at places, and bounds.
use Rattle.std.specs.Prelude.{◌≡◌, ◌↔◌, ◌+◌, ◌<◌, ◌≤◌, ◌^◌, ◌≤ℤ◌, ◌-ℤ◌, ℕ, ℤ, zero, suc, pos, nat_abs, List, [], ◌∷◌, ◌++◌, length, All, Option, Some, None}
use Rattle.std.specs.List.{AllByRecursion}
use Rattle.lrp_theory.specs.Divides.{IsPointMember, IsCommon}
use Rattle.lrp_theory.specs.Entries.{node}
use Rattle.lrp_model.specs.Periods.{row_periods}
use Rattle.lrp_model.specs.Rows.{Tuple, IsInRow, MeetsBound, times_of}
use Rattle.lrp_model.specs.declared.relations.Bound.{Bound}
use Rattle.lrp_model.specs.declared.relations.Row.{Row}
use Rattle.lrp_model.specs.declared.relations.RowPoint.{RowPoint}
use Rattle.lrp_model.specs.declared.relations.Value.{Value}
use Rattle.lrp_model.specs.declared.relations.Value.TheVariants.{Point, Const}
use Rattle.lrp_systems.specs.Parts.{PartView, IsPlacedZone, Fits}
use Rattle.lrp_systems.specs.Systems.{IsSolution}
use Rattle.lrp_zone.specs.Zones.{ZoneView, IsMember, IsZone, columns_of, reach_of}
use Rattle.lrp_lint.specs.Flaws.{IsEmpty, IsRowWithinLimits, row_reach}
use Rattle.lrp_lint.specs.Ties.{AreBetween}
use Rattle.lrp_lint.specs.declared.flaws.RowFlaw.{RowFlaw}
use Rattle.lrp_lint.specs.declared.flaws.RowFlaw.TheVariants.{EmptyRow, UntiedTimes, RowLimit}

-- of a row's content there is this flaw, or none: the row holds nothing, or passes the limits
abbrev pub IsContentFlaw : Row → Option RowFlaw → Type 0
IsContentFlaw row None = IsRowWithinLimits row × (IsEmpty row → ⊥)
IsContentFlaw row (Some EmptyRow) = IsRowWithinLimits row × IsEmpty row
IsContentFlaw row (Some RowLimit) = IsRowWithinLimits row → ⊥
IsContentFlaw row (Some UntiedTimes) = ⊥

-- the number is a multiple of the row's periods, and is at most 2 ^ 62 with the greatest magnitude of the row's bounds
pub record HasPeriodRoom (row : Row) (period : ℤ) : Type 0 where
  pub low : pos 1 ≤ℤ period
  pub common : IsCommon (row_periods row) (nat_abs period)
  pub room : row_reach row + nat_abs period ≤ 2 ^ 62

-- the points among values, in order
abbrev pub row_points : List Value → List RowPoint
row_points [] = []
row_points (Point at ∷ values) = at ∷ row_points values
row_points (Const t ∷ values) = row_points values

-- a point's period is from 1 to 2 ^ 62
abbrev pub HasPointPeriod : Value → Type 0
HasPointPeriod (Point at) = (pos 1 ≤ℤ at.period) × (at.period ≤ℤ pos (2 ^ 62))
HasPointPeriod (Const t) = Unit {0}

-- a row with this many points, whose bounds are between its columns and small
pub record IsReadable (times : ℕ) (row : Row) : Type 0 where
  pub few : times ≤ 8
  pub count : length (row_points row.values) ≡ times
  pub periods : AllByRecursion HasPointPeriod row.values
  pub between : AllByRecursion (AreBetween times) row.bounds
  pub small : All (λ b. nat_abs b.most ≤ 2 ^ 62) row.bounds

-- the part holds the members of the point, at the place
pub record IsPointPart (at : RowPoint) (place : ℕ) (part : PartView) : Type 0 where
  pub valid : IsPlacedZone part
  pub places : part.places ≡ place ∷ []
  pub period : pos part.zone.period ≡ at.period
  pub reach : reach_of part.zone ≤ 0
  pub members : (x : ℤ) → IsMember part.zone (x ∷ []) ↔ IsPointMember at.offset at.period x

-- such a part for each point, at the places from this one on
abbrev pub ArePointParts : ℕ → List RowPoint → List PartView → Type 0
ArePointParts place [] [] = Unit {0}
ArePointParts place (at ∷ points) (part ∷ parts) = IsPointPart at place part × ArePointParts (suc place) points parts
ArePointParts place _ _ = ⊥

-- the values at the places from this one on are members of the points
abbrev pub AreMembers : List ℤ → ℕ → List RowPoint → Type 0
AreMembers xs place [] = Unit {0}
AreMembers xs place (at ∷ points) = IsPointMember at.offset at.period (node xs place) × AreMembers xs (suc place) points

-- the zone holds the tuples of this many times that meet the bounds
pub record IsBoundZone (bounds : List Bound) (times : ℕ) (z : ZoneView) : Type 0 where
  pub valid : IsZone z
  pub period : z.period ≡ 1
  pub count : columns_of z ≡ times
  pub to : (xs : List ℤ) → IsMember z xs → AllByRecursion (MeetsBound xs) bounds
  pub from : (xs : List ℤ) → length xs ≡ times → AllByRecursion (MeetsBound xs) bounds → IsMember z xs
  pub reach : (high : ℕ) → All (λ b. nat_abs b.most ≤ high) bounds → reach_of z ≤ high

-- no tuple of this many times meets the bounds
pub record HasNoneBounded (bounds : List Bound) (times : ℕ) : Type 0 where
  pub none : (xs : List ℤ) → length xs ≡ times → AllByRecursion (MeetsBound xs) bounds → ⊥

-- no times lie in each part
abbrev pub HasNoCommonTimes : ℕ → List PartView → Type 0
HasNoCommonTimes times parts = (xs : List ℤ) (texts : List ℕ) → IsSolution parts times [] xs texts → ⊥

-- the times of the row's tuples are those that lie in each part, and the parts fit a period for which the row has room
pub record IsSystemOf (row : Row) (times : ℕ) (parts : List PartView) : Type 0 where
  pub to : (tuple : Tuple) → IsInRow row tuple → IsSolution parts times [] (times_of tuple) []
  pub from : (xs : List ℤ) (texts : List ℕ) → IsSolution parts times [] xs texts → (tuple : Tuple) × IsInRow row tuple
  pub fits : (period : ℤ) → HasPeriodRoom row period → All (Fits times (nat_abs period)) parts
