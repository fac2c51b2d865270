-- Whether a row holds a tuple, by the system of its parts.
use Rattle.std.proofs.Common.{◌≡◌, ℕ, zero, suc, ◌+◌, ◌-◌, ◌<◌, ◌≤◌, ◌^◌, inl, inr, List, [], ◌∷◌, ◌++◌, length, take, map, Bool, Option, None, Some, Result, Ok, Err, IfOk, refl, sym, ap, subst, ◌∙◌, arith, Contains}
use Rattle.std.specs.Prelude.{◌⊎◌, ◌↔◌, ℤ, pos, nat_abs, ◌+ℤ◌, ◌-ℤ◌, ◌≤ℤ◌, ◌<ℤ◌, All, IsTrue, flat_map}
use Rattle.std.specs.List.{AllByRecursion}
use Rattle.std.proofs.lemmas.Int.{ints}
use Rattle.std.proofs.lemmas.List.{length-append}
use Rattle.std.proofs.lemmas.List.Elements.{All-from_recursion, recursion_from_All}
use Rattle.lrp_theory.specs.Divides.{Divides, IsCommon, IsPointMember}
use Rattle.lrp_theory.specs.Entries.{node}
use Rattle.lrp_model.proofs.Logic.{all_append}
use Rattle.lrp_model.specs.Rows.{Datum, time, text, Tuple, IsInRow, IsOf, MeetsBound, times_of}
use Rattle.lrp_model.specs.Periods.{value_periods}
use Rattle.lrp_model.specs.Reach.{greatest}
use Rattle.lrp_model.specs.declared.relations.Bound.{Bound}
use Rattle.lrp_model.specs.declared.relations.Row.{Row}
use Rattle.lrp_model.specs.declared.relations.RowPoint.{RowPoint}
use Rattle.lrp_model.specs.declared.relations.Value.{Value}
use Rattle.lrp_model.specs.declared.relations.Value.TheVariants.{Point, Const}
use Rattle.lrp_systems.proofs.LoneZones.{alone_from, alone_to}
use Rattle.lrp_systems.specs.Parts.{PartView, InPart, Fits}
use Rattle.lrp_systems.specs.Sole.{IsWholePart}
use Rattle.lrp_systems.specs.Systems.{IsSolution}
use Rattle.lrp_zone.specs.Spread.{target}
use Rattle.lrp_zone.specs.Zones.{ZoneView, IsMember, reach_of}
use Rattle.lrp_lint.specs.Contents.{ArePointParts, AreMembers, HasNoneBounded, HasPointPeriod, HasNoCommonTimes, HasPeriodRoom, IsBoundZone, IsReadable, IsSystemOf, row_points}
use Rattle.lrp_lint.specs.Flaws.{IsEmpty, row_reach}
use Rattle.lrp_lint.proofs.Points.{in_parts, one_divides, parts_fit}

-- ---- a tuple and its times

-- what stands after a front
at_length : (front : List ℤ) (x : ℤ) (after : List ℤ) → node (front ++ x ∷ after) (suc (length front)) ≡ x
at_length [] x after = refl
at_length (y ∷ front) x after = at_length front x after

regroup : (front : List ℤ) (x : ℤ) (after : List ℤ) → front ++ x ∷ after ≡ (front ++ x ∷ []) ++ after
regroup [] x after = refl
regroup (y ∷ front) x after = ap (λ xs. y ∷ xs) (regroup front x after)

one_longer : (front : List ℤ) (x : ℤ) → length (front ++ x ∷ []) ≡ suc (length front)
one_longer [] x = refl
one_longer (y ∷ front) x = ap suc (one_longer front x)

-- the times of a tuple of the values are members of their points
members_of : (values : List Value) (tuple : Tuple) (front : List ℤ) → IsOf values tuple → AreMembers (front ++ times_of tuple) (suc (length front)) (row_points values)
members_of [] tuple front is = tt
members_of (Point at ∷ values) [] front is = absurd is
members_of (Point at ∷ values) (text t ∷ tuple) front is = absurd is
members_of (Point at ∷ values) (time x ∷ tuple) front is = (
  subst (IsPointMember at.offset at.period) (sym (at_length front x (times_of tuple))) is.0,
  subst (λ n. AreMembers (front ++ x ∷ times_of tuple) n (row_points values)) (ap suc (one_longer front x))
      (subst (λ xs. AreMembers xs (suc (length (front ++ x ∷ []))) (row_points values)) (sym (regroup front x (times_of tuple))) (members_of values tuple (front ++ x ∷ []) is.1)),
)
members_of (Const c ∷ values) [] front is = absurd is
members_of (Const c ∷ values) (time x ∷ tuple) front is = absurd is
members_of (Const c ∷ values) (text t ∷ tuple) front is = members_of values tuple front is.1

-- there are as many times as points
pub times_count : (values : List Value) (tuple : Tuple) → IsOf values tuple → length (times_of tuple) ≡ length (row_points values)
times_count [] [] is = refl
times_count [] (d ∷ tuple) is = absurd is
times_count (Point at ∷ values) [] is = absurd is
times_count (Point at ∷ values) (text t ∷ tuple) is = absurd is
times_count (Point at ∷ values) (time x ∷ tuple) is = ap suc (times_count values tuple is.1)
times_count (Const c ∷ values) [] is = absurd is
times_count (Const c ∷ values) (time x ∷ tuple) is = absurd is
times_count (Const c ∷ values) (text t ∷ tuple) is = times_count values tuple is.1

-- the tuple with the texts of the values and these times
abbrev with_times : List Value → List ℤ → Tuple
with_times [] xs = []
with_times (Point at ∷ values) [] = []
with_times (Point at ∷ values) (x ∷ xs) = time x ∷ with_times values xs
with_times (Const t ∷ values) xs = text t ∷ with_times values xs

times_are : (values : List Value) (xs : List ℤ) → length xs ≡ length (row_points values) → times_of (with_times values xs) ≡ xs
times_are [] [] e = refl
times_are [] (x ∷ xs) e = absurd (omega (arith, e))
times_are (Point at ∷ values) [] e = absurd (omega (arith, e))
times_are (Point at ∷ values) (x ∷ xs) e = ap (λ ys. x ∷ ys) (times_are values xs (omega (arith, e)))
times_are (Const t ∷ values) xs e = times_are values xs e

is_of : (values : List Value) (front xs : List ℤ) → length xs ≡ length (row_points values) → AreMembers (front ++ xs) (suc (length front)) (row_points values) → IsOf values (with_times values xs)
is_of [] front xs e all = tt
is_of (Point at ∷ values) front [] e all = absurd (omega (arith, e))
is_of (Point at ∷ values) front (x ∷ xs) e all = (
  subst (IsPointMember at.offset at.period) (at_length front x xs) all.0,
  is_of values (front ++ x ∷ []) xs (omega (arith, e)) (subst (λ ys. AreMembers ys (suc (length (front ++ x ∷ []))) (row_points values)) (regroup front x xs) (subst (λ n. AreMembers (front ++ x ∷ xs) n (row_points values)) (sym (ap suc (one_longer front x))) all.1)),
)
is_of (Const t ∷ values) front xs e all = (refl, is_of values front xs e all)

-- the periods of a row's points divide the number that it has room for
common_points : (values : List Value) (k : ℕ) → IsCommon (flat_map value_periods values) k → AllByRecursion HasPointPeriod values → AllByRecursion (λ (at : RowPoint). Divides at.period (pos k)) (row_points values)
common_points [] k h p = tt
common_points (Point at ∷ values) k h p = (subst (λ z. Divides z (pos k)) (let low = p.0.0 in abs_is at.period low) h.0, common_points values k h.1 p.1)
  where
    abs_is : (z : ℤ) → pos 1 ≤ℤ z → pos (nat_abs z) ≡ z
    abs_is z low = omega (arith, ints)
common_points (Const t ∷ values) k h p = common_points values k h p.1

-- each magnitude is at most the greatest
most_of : (bounds : List Bound) → All (λ (b : Bound). nat_abs b.most ≤ greatest (map (λ (c : Bound). nat_abs c.most) bounds)) bounds
most_of bounds = All-from_recursion (λ (b : Bound). nat_abs b.most ≤ greatest (map (λ (c : Bound). nat_abs c.most) bounds)) bounds (below bounds (greatest (map (λ (c : Bound). nat_abs c.most) bounds)) (omega arith))
  where
    below : (bs : List Bound) (high : ℕ) → greatest (map (λ (c : Bound). nat_abs c.most) bs) ≤ high → AllByRecursion (λ (b : Bound). nat_abs b.most ≤ high) bs
    below [] high le = tt
    below (b ∷ bs) high le = (omega (arith, le), below bs high (omega (arith, le)))

-- a whole part whose period is 1 fits where its bounds leave room
part_fits : (part : PartView) (k n m : ℕ) → IsWholePart k n part → part.zone.period ≡ 1 → reach_of part.zone + m ≤ 2 ^ 62 → Fits n m part
part_fits part k n m w one reach = record {
  places = record {
    low = λ p h. (let c : length part.places ≡ n = count_is in let e : target part.places (p + 1) ≡ p + 1 = w.each (p + 1) (omega (arith, h, c)) in omega (arith, e));
    high = λ p h. (let c : length part.places ≡ n = count_is in let e : target part.places p ≡ p = w.each p (omega (arith, h, c)) in omega (arith, e, h, c));
    differ = λ p q pl ql e. (let c : length part.places ≡ n = count_is in sym (w.each p (omega (arith, pl, c))) ∙ e ∙ w.each q (omega (arith, ql, c)));
  };
  multiple = subst (λ j. Divides (pos j) (pos m)) (sym one) (one_divides (pos m));
  reach = λ ne. reach;
}
  where
    count_is : length part.places ≡ n
    count_is = w.valid.count ∙ w.columns

-- ---- a row and its system

module _ (row : Row) (times : ℕ) (readable : IsReadable times row) where
  count : length (row_points row.values) ≡ times
  count = readable.count

  -- no times meet the bounds: the row holds nothing
  pub none_bounded : HasNoneBounded row.bounds times → IsEmpty row
  none_bounded none tuple h = none.none (times_of tuple) (times_count row.values tuple h.values ∙ count) h.bounds

  module _ (parts : List PartView) (points : ArePointParts 1 (row_points row.values) parts) (z : ZoneView) (bound : IsBoundZone row.bounds times z) (part : PartView) (zone : part.zone ≡ z) (k : ℕ) (whole : IsWholePart k times part) where
    -- the times of a tuple of the row are a solution
    solution_of : (named : List ℕ) → named ≡ [] → (tuple : Tuple) → IsInRow row tuple → IsSolution (parts ++ part ∷ []) times named (times_of tuple) []
    solution_of named none tuple h = record {
      count = length_is;
      inside = All-from_recursion (λ q. InPart q (times_of tuple)) (parts ++ part ∷ []) ((all_append (λ q. InPart q (times_of tuple)) parts (part ∷ [])).1 (
        (in_parts (times_of tuple) 1 (row_points row.values) parts points).1 (members_of row.values tuple [] h.values),
        recursion_from_All (λ q. InPart q (times_of tuple)) (part ∷ []) (alone_to part k times whole (times_of tuple) (subst (λ (y : ZoneView). IsMember y (times_of tuple)) (sym zone) (bound.from (times_of tuple) length_is h.bounds))),
      ));
      same = none;
    }
      where
        length_is : length (times_of tuple) ≡ times
        length_is = times_count row.values tuple h.values ∙ count

    -- a solution is the times of a tuple of the row
    tuple_of : (named : List ℕ) (xs : List ℤ) (texts : List ℕ) → IsSolution (parts ++ part ∷ []) times named xs texts → IsInRow row (with_times row.values xs)
    tuple_of named xs texts s =
        let all = (all_append (λ q. InPart q xs) parts (part ∷ [])).0 (recursion_from_All (λ q. InPart q xs) (parts ++ part ∷ []) s.inside) in
        let long : length xs ≡ length (row_points row.values) = s.count ∙ sym count in
        let member : IsMember part.zone xs = alone_from part k times whole xs s.count (All-from_recursion (λ q. InPart q xs) (part ∷ []) all.1) in
        record {
          values = is_of row.values [] xs long ((in_parts xs 1 (row_points row.values) parts points).0 all.0);
          bounds = subst (λ ys. AllByRecursion (MeetsBound ys) row.bounds) (sym (times_are row.values xs long)) (bound.to xs (subst (λ (y : ZoneView). IsMember y xs) zone member));
        }

    whole_fits : (period : ℤ) → HasPeriodRoom row period → Fits times (nat_abs period) part
    whole_fits period room = part_fits part k times (nat_abs period) whole (ap (λ (y : ZoneView). y.period) zone ∙ bound.period) (subst (λ (y : ZoneView). reach_of y + nat_abs period ≤ 2 ^ 62) (sym zone) (let r = room.room in let b = bound.reach (row_reach row) (most_of row.bounds) in omega (arith, r, b)))

    -- the parts are the system of the row
    pub system_is : IsSystemOf row times (parts ++ part ∷ [])
    system_is = record {
      to = λ tuple h. solution_of [] refl tuple h;
      from = λ xs texts s. (with_times row.values xs, tuple_of [] xs texts s);
      fits = λ period room. All-from_recursion (Fits times (nat_abs period)) (parts ++ part ∷ []) ((all_append (Fits times (nat_abs period)) parts (part ∷ [])).1 (
        parts_fit times (nat_abs period) (let r = room.room in omega (arith, r)) 1 (row_points row.values) parts (omega arith) (omega (arith, count)) (common_points row.values (nat_abs period) room.common readable.periods) points,
        (whole_fits period room, tt),
      ));
    }

-- no times lie in each part exactly where the row holds nothing
pub empty_by : (row : Row) (times : ℕ) (parts shown : List PartView) (b : Bool) → IsSystemOf row times parts → shown ≡ parts → IsTrue b ↔ HasNoCommonTimes times shown → IsTrue b ↔ IsEmpty row
empty_by row times parts shown b system same is = (
  λ t tuple h. is.0 t (times_of tuple) [] (subst (λ ps. IsSolution ps times [] (times_of tuple) []) (sym same) (system.to tuple h)),
  λ empty. is.1 (λ xs texts s. (let f = system.from xs texts (subst (λ ps. IsSolution ps times [] xs texts) same s) in empty f.0 f.1)),
)

pub empty_ok : {E : Type 0} (row : Row) (times : ℕ) (parts shown : List PartView) (r : Result Bool E) → IsSystemOf row times parts → shown ≡ parts → IfOk r (λ none. IsTrue none ↔ HasNoCommonTimes times shown) → IfOk r (λ empty. IsTrue empty ↔ IsEmpty row)
empty_ok row times parts shown (Ok b) system same h = empty_by row times parts shown b system same h
empty_ok row times parts shown (Err e) system same h = h

pub fits_by : (row : Row) (times : ℕ) (parts shown : List PartView) (period passed : ℤ) → IsSystemOf row times parts → shown ≡ parts → passed ≡ period → HasPeriodRoom row period → All (Fits times (nat_abs passed)) shown
fits_by row times parts shown period passed system same word room = subst (λ k. All (Fits times (nat_abs k)) shown) (sym word) (subst (All (Fits times (nat_abs period))) (sym same) (system.fits period room))
