-- A row of the columns of a relation can be read.
use Rattle.std.proofs.Common.{◌≡◌, ℕ, suc, ◌+◌, ◌≤◌, ◌^◌, Bool, true, false, List, [], ◌∷◌, length, refl, sym, ap, ◌∙◌, arith}
use Rattle.std.specs.Prelude.{ℤ, pos, neg_ℤ, nat_abs, ◌≤ℤ◌, All, cond}
use Rattle.std.specs.List.{AllByRecursion}
use Rattle.std.proofs.lemmas.Int.{ints}
use Rattle.std.proofs.lemmas.List.Elements.{All-from_recursion}
use Rattle.std.proofs.lemmas.List.Sums.{sum_by-cons}
use Rattle.lrp_model.specs.Kept.{AreValuesOf, IsBoundOf, IsRowOf, IsValueOf}
use Rattle.lrp_model.specs.Sorts.{is_time, time_count}
use Rattle.lrp_model.specs.declared.relations.Bound.{Bound}
use Rattle.lrp_model.specs.declared.relations.Column.{Column}
use Rattle.lrp_model.specs.declared.relations.Row.{Row}
use Rattle.lrp_model.specs.declared.relations.Value.{Value}
use Rattle.lrp_model.specs.declared.relations.Value.TheVariants.{Point, Const}
use Rattle.lrp_lint.specs.Contents.{HasPointPeriod, IsReadable, row_points}
use Rattle.lrp_lint.specs.Ties.{AreBetween}

-- one column more
one_column : (c : Column) (columns : List Column) (b : Bool) → is_time c.sort ≡ b → time_count (c ∷ columns) ≡ cond b 1 0 + time_count columns
one_column c columns b e = sum_by-cons (λ (d : Column). cond (is_time d.sort) 1 0) c columns ∙ ap (λ t. cond t 1 0 + time_count columns) e

with_time : (points times all : ℕ) → points ≡ times → all ≡ 1 + times → suc points ≡ all
with_time points times all e a = omega (arith, e, a)

with_text : (points times all : ℕ) → points ≡ times → all ≡ 0 + times → points ≡ all
with_text points times all e a = omega (arith, e, a)

-- there is a point for each time column
points_count : (columns : List Column) (values : List Value) → AreValuesOf columns values → length (row_points values) ≡ time_count columns
points_count [] [] is = refl
points_count [] (v ∷ values) is = absurd is
points_count (c ∷ columns) [] is = absurd is
points_count (c ∷ columns) (Point at ∷ values) is = with_time (length (row_points values)) (time_count columns) (time_count (c ∷ columns)) (points_count columns values is.1) (one_column c columns true is.0.0)
points_count (c ∷ columns) (Const text ∷ values) is = with_text (length (row_points values)) (time_count columns) (time_count (c ∷ columns)) (points_count columns values is.1) (one_column c columns false is.0.0)

points_periods : (columns : List Column) (values : List Value) → AreValuesOf columns values → AllByRecursion HasPointPeriod values
points_periods [] [] is = tt
points_periods [] (v ∷ values) is = absurd is
points_periods (c ∷ columns) [] is = absurd is
points_periods (c ∷ columns) (Point at ∷ values) is = let here : HasPointPeriod (Point at) = (is.0.1, is.0.2) in (here, points_periods columns values is.1)
points_periods (c ∷ columns) (Const text ∷ values) is = let here : HasPointPeriod (Const text) = tt in (here, points_periods columns values is.1)

bounds_between : (times : ℕ) (bounds : List Bound) → AllByRecursion (IsBoundOf times) bounds → AllByRecursion (AreBetween times) bounds
bounds_between times [] all = tt
bounds_between times (b ∷ bounds) all = (record { left = all.0.left; right = all.0.right }, bounds_between times bounds all.1)

bounds_small : (times : ℕ) (bounds : List Bound) → AllByRecursion (IsBoundOf times) bounds → AllByRecursion (λ (b : Bound). nat_abs b.most ≤ 2 ^ 62) bounds
bounds_small times [] all = tt
bounds_small times (b ∷ bounds) all = (small b.most all.0.low all.0.high, bounds_small times bounds all.1)
  where
    small : (m : ℤ) → neg_ℤ (pos (2 ^ 62)) ≤ℤ m → m ≤ℤ pos (2 ^ 62) → nat_abs m ≤ 2 ^ 62
    small m low high = omega (arith, ints, low, high)

-- bounds between fewer columns are between more
pub between_more : (times most : ℕ) (bounds : List Bound) → times ≤ most → AllByRecursion (IsBoundOf times) bounds → AllByRecursion (AreBetween most) bounds
between_more times most [] le all = tt
between_more times most (b ∷ bounds) le all = (record { left = let l = all.0.left in omega (arith, l, le); right = let r = all.0.right in omega (arith, r, le) }, between_more times most bounds le all.1)

pub readable : (columns : List Column) (row : Row) → time_count columns ≤ 8 → IsRowOf columns row → IsReadable (time_count columns) row
readable columns row few is = record {
  few = few;
  count = points_count columns row.values is.values;
  periods = points_periods columns row.values is.values;
  between = bounds_between (time_count columns) row.bounds is.bounds;
  small = All-from_recursion (λ (b : Bound). nat_abs b.most ≤ 2 ^ 62) row.bounds (bounds_small (time_count columns) row.bounds is.bounds);
}
