-- What the rows of a relation ask of the values of an atom's terms.
use Rattle.std.specs.Prelude.{◌≡◌, ℕ, ℤ, ◌+◌, ◌*◌, ◌<◌, ◌≤◌, ◌^◌, ◌≤ℤ◌, ◌-ℤ◌, pos, nat_abs, List, Some, All, map, flat_map, length, slice_get}
use Rattle.std.specs.List.{AllByRecursion}
use Rattle.lrp_theory.specs.Divides.{Divides, IsPointMember}
use Rattle.lrp_theory.specs.Entries.{node}
use Rattle.lrp_model.specs.Reach.{greatest, term_magnitudes}
use Rattle.lrp_model.specs.Rows.{Datum, time, text, times_of, IsOf, IsInRow, MeetsBound}
use Rattle.lrp_model.specs.Satisfaction.{Assignment, term_value}
use Rattle.lrp_model.specs.Texts.{Text, Identifier}
use Rattle.lrp_model.specs.declared.formulas.DataTerm.TheVariants.{Const as data_const}
use Rattle.lrp_model.specs.declared.formulas.Term.{Term}
use Rattle.lrp_model.specs.declared.formulas.Term.TheVariants.{Data as data_term}
use Rattle.lrp_model.specs.declared.relations.Bound.{Bound}
use Rattle.lrp_model.specs.declared.relations.Row.{Row}
use Rattle.lrp_model.specs.declared.relations.Value.{Value}
use Rattle.lrp_model.specs.declared.relations.Value.TheVariants.{Point, Const}
use Rattle.lrp_store.specs.Tables.{AreTexts}
use Rattle.lrp_systems.specs.Parts.{Fits, system_reach}
use Rattle.lrp_zone.specs.Zones.{ZoneView, columns_of, reach_of}
use Rattle.lrp_zone.specs.Zones.{IsMember as InZone}
use Rattle.lrp_steps.specs.Patterns.{parts_of, MatchesPattern}
use Rattle.lrp_steps.specs.declared.asked.AskedText.{AskedText}
use Rattle.lrp_steps.specs.declared.pattern.Pattern.{Pattern}

-- the datum is of the value: a member of the point, or the constant
abbrev pub IsOfValue : Value → Datum → Type 0
IsOfValue (Point at) (time x) = IsPointMember at.offset at.period x
IsOfValue (Const constant) (text t) = t ≡ constant
IsOfValue _ _ = ⊥

-- a point's period is at least 1 and divides k
abbrev pub DividesPeriod : ℤ → Value → Type 0
DividesPeriod k (Point at) = (pos 1 ≤ℤ at.period) × Divides at.period k
DividesPeriod k (Const t) = Unit {0}

-- the times among the values of the terms, in order
abbrev pub term_times : Assignment → List Term → List ℤ
term_times env terms = times_of (map (term_value env) terms)

-- twice the greatest magnitude of an offset of the terms
abbrev pub offsets_reach : List Term → ℕ
offsets_reach terms = 2 * greatest (flat_map term_magnitudes terms)

-- the greatest magnitude of a bound, and room for the offsets
abbrev pub bounds_reach : List Bound → List Term → ℕ
bounds_reach bounds terms = greatest (map (λ bound. nat_abs bound.most) bounds) + offsets_reach terms

-- ---- bounds

-- the bound of two columns, counted from 1, holds exactly where that of the times of the terms does
pub record IsShifted (times : List Identifier) (terms : List Term) (old new : Bound) : Type 0 where
  pub left : new.left ≤ length times
  pub right : new.right ≤ length times
  pub small : nat_abs new.most ≤ nat_abs old.most + offsets_reach terms
  pub to : (env : Assignment) → (node (map env.times times) new.left -ℤ node (map env.times times) new.right) ≤ℤ new.most → MeetsBound (term_times env terms) old
  pub from : (env : Assignment) → MeetsBound (term_times env terms) old → (node (map env.times times) new.left -ℤ node (map env.times times) new.right) ≤ℤ new.most

-- the tuple meets each of the bounds
abbrev pub MeetsEach : List Bound → List ℤ → Type 0
MeetsEach bounds xs = All (λ b. (node xs b.left -ℤ node xs b.right) ≤ℤ b.most) bounds

-- the zone holds the tuples of so many times that meet the bounds
pub record IsZoneOfBounds (bounds : List Bound) (columns : ℕ) (z : ZoneView) : Type 0 where
  pub period : z.period ≡ 1
  pub count : columns_of z ≡ columns
  pub to : (xs : List ℤ) → InZone z xs → MeetsEach bounds xs
  pub from : (xs : List ℤ) → length xs ≡ columns → MeetsEach bounds xs → InZone z xs
  pub reach : (high : ℕ) → All (λ b. nat_abs b.most ≤ high) bounds → reach_of z ≤ high

-- no tuple of so many times meets the bounds
pub record HasNoBounded (bounds : List Bound) (columns : ℕ) : Type 0 where
  pub none : (xs : List ℤ) → length xs ≡ columns → MeetsEach bounds xs → ⊥

-- new asks what old asks, and that the times of the terms meet the bounds
pub record IsWithBounds (times : List Identifier) (terms : List Term) (bounds : List Bound) (old new : Pattern) : Type 0 where
  pub size : length new.texts ≡ 8
  pub to : (env : Assignment) (ns : List ℕ) → MatchesPattern new (map env.times times) ns → MatchesPattern old (map env.times times) ns × AllByRecursion (MeetsBound (term_times env terms)) bounds
  pub from : (env : Assignment) (ns : List ℕ) → MatchesPattern old (map env.times times) ns → AllByRecursion (MeetsBound (term_times env terms)) bounds → MatchesPattern new (map env.times times) ns
  pub fits : (k : ℕ) → 0 < k → bounds_reach bounds terms + k ≤ 2 ^ 62 → All (Fits (length times) k) (parts_of old) → All (Fits (length times) k) (parts_of new)
  pub reach : (k high : ℕ) → 0 < k → bounds_reach bounds terms + k ≤ high → system_reach k (parts_of old) ≤ high → system_reach k (parts_of new) ≤ high

-- the times of the terms never meet the bounds
pub record HasNoBounds (times : List Identifier) (terms : List Term) (bounds : List Bound) : Type 0 where
  pub none : (env : Assignment) → AllByRecursion (MeetsBound (term_times env terms)) bounds → ⊥

-- ---- values

-- new asks what old asks, and that what the term stands for is of the value
pub record IsWithValue (domain : List Text) (times texts : List Identifier) (value : Value) (term : Term) (old new : Pattern) : Type 0 where
  pub size : length new.texts ≡ 8
  pub to : (env : Assignment) (ns : List ℕ) → AreTexts domain ns (map env.texts texts) → MatchesPattern new (map env.times times) ns → MatchesPattern old (map env.times times) ns × IsOfValue value (term_value env term)
  pub from : (env : Assignment) (ns : List ℕ) → AreTexts domain ns (map env.texts texts) → MatchesPattern old (map env.times times) ns → IsOfValue value (term_value env term) → MatchesPattern new (map env.times times) ns
  pub fits : (k : ℕ) → DividesPeriod (pos k) value → k ≤ 2 ^ 62 → All (Fits (length times) k) (parts_of old) → All (Fits (length times) k) (parts_of new)
  pub reach : (k high : ℕ) → k ≤ high → system_reach k (parts_of old) ≤ high → system_reach k (parts_of new) ≤ high

-- nothing that the pattern asks for has a value of the term that is of this one
pub record HasNoValue (domain : List Text) (times texts : List Identifier) (value : Value) (term : Term) (old : Pattern) : Type 0 where
  pub none : (env : Assignment) (ns : List ℕ) → AreTexts domain ns (map env.texts texts) → MatchesPattern old (map env.times times) ns → IsOfValue value (term_value env term) → ⊥

-- the pattern asks that what the terms stand for is of the values
pub record IsWithValues (domain : List Text) (times texts : List Identifier) (values : List Value) (terms : List Term) (new : Pattern) : Type 0 where
  pub size : length new.texts ≡ 8
  pub to : (env : Assignment) (ns : List ℕ) → AreTexts domain ns (map env.texts texts) → MatchesPattern new (map env.times times) ns → IsOf values (map (term_value env) terms)
  pub from : (env : Assignment) (ns : List ℕ) → AreTexts domain ns (map env.texts texts) → IsOf values (map (term_value env) terms) → MatchesPattern new (map env.times times) ns
  pub fits : (k : ℕ) → AllByRecursion (DividesPeriod (pos k)) values → k ≤ 2 ^ 62 → All (Fits (length times) k) (parts_of new)
  pub reach : (k high : ℕ) → k ≤ high → system_reach k (parts_of new) ≤ high

-- what the terms stand for is never of the values
pub record HasNoValues (domain : List Text) (times texts : List Identifier) (values : List Value) (terms : List Term) : Type 0 where
  pub none : (env : Assignment) (ns : List ℕ) → AreTexts domain ns (map env.texts texts) → IsOf values (map (term_value env) terms) → ⊥

-- ---- values that fail for each assignment

-- whatever is assigned, what the term stands for is not of the value
pub record IsNeverOf (value : Value) (term : Term) : Type 0 where
  pub none : (env : Assignment) → IsOfValue value (term_value env term) → ⊥

-- whatever is assigned, what the terms stand for is not of the values
pub record AreNeverOf (values : List Value) (terms : List Term) : Type 0 where
  pub none : (env : Assignment) → IsOf values (map (term_value env) terms) → ⊥

-- the term at the place is the text
pub record IsAskedText (terms : List Term) (asked : AskedText) : Type 0 where
  pub is : slice_get terms asked.place ≡ Some (data_term (data_const asked.text.now))

-- ---- rows

-- the pattern asks that the values of the terms are a member of the row
pub record IsOfRow (domain : List Text) (times texts : List Identifier) (terms : List Term) (row : Row) (new : Pattern) : Type 0 where
  pub size : length new.texts ≡ 8
  pub to : (env : Assignment) (ns : List ℕ) → AreTexts domain ns (map env.texts texts) → MatchesPattern new (map env.times times) ns → IsInRow row (map (term_value env) terms)
  pub from : (env : Assignment) (ns : List ℕ) → AreTexts domain ns (map env.texts texts) → IsInRow row (map (term_value env) terms) → MatchesPattern new (map env.times times) ns
  pub fits : (k : ℕ) → 0 < k → AllByRecursion (DividesPeriod (pos k)) row.values → bounds_reach row.bounds terms + k ≤ 2 ^ 62 → All (Fits (length times) k) (parts_of new)
  pub reach : (k high : ℕ) → 0 < k → bounds_reach row.bounds terms + k ≤ high → system_reach k (parts_of new) ≤ high

-- the values of the terms are never a member of the row
pub record HasNoRow (domain : List Text) (times texts : List Identifier) (terms : List Term) (row : Row) : Type 0 where
  pub none : (env : Assignment) (ns : List ℕ) → AreTexts domain ns (map env.texts texts) → IsInRow row (map (term_value env) terms) → ⊥

-- a point's period is from 1 to 2^62
abbrev pub HasSmallPeriod : Value → Type 0
HasSmallPeriod (Point at) = (pos 1 ≤ℤ at.period) × (at.period ≤ℤ pos (2 ^ 62))
HasSmallPeriod (Const t) = Unit {0}

-- a row with a value for each term, each point of a lawful period, and bounds that leave room for the offsets
pub record CanBeRead (terms : List Term) (row : Row) : Type 0 where
  pub count : length row.values ≡ length terms
  pub values : AllByRecursion HasSmallPeriod row.values
  pub room : bounds_reach row.bounds terms < 2 ^ 62

-- ---- tuples

-- the tuple is that of an assignment for which the values of the terms are a member of the row
pub record IsRowTuple (domain : List Text) (times texts : List Identifier) (terms : List Term) (row : Row) (xs : List ℤ) (ns : List ℕ) : Type 0 where
  pub env : Assignment
  pub times_are : xs ≡ map env.times times
  pub texts_are : AreTexts domain ns (map env.texts texts)
  pub is : IsInRow row (map (term_value env) terms)
