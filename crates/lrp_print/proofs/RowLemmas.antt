-- Rows and bounds of relations that are written out.
use Rattle.std.proofs.Common.{◌≡◌, List, [], ◌∷◌, refl, ap, ◌∙◌}
use Rattle.std.specs.Prelude.{◌≤ℤ◌, pos, neg_ℤ}
use Rattle.std.specs.List.{flat_map, AllByRecursion}
use Rattle.lrp_model.specs.Printed.{row_line, bound_bytes, bounds_bytes}
use Rattle.lrp_model.specs.Limits.{greatest_number}
use Rattle.lrp_model.specs.declared.relations.Bound.{Bound}
use Rattle.lrp_model.specs.declared.relations.Column.{Column}
use Rattle.lrp_model.specs.declared.relations.Value.{Value}
use Rattle.lrp_model.specs.declared.relations.Value.TheVariants.{Point, Const}
use Rattle.lrp_model.specs.declared.relations.Row.{Row}
use Rattle.lrp_model.specs.declared.relations.Relation.{Relation}
use Rattle.lrp_model.specs.Kept.{HasLowPeriod, IsWritable, AreValuesOf, IsBoundOf, IsRowOf, IsKept}
use Rattle.lrp_model.proofs.Everywhere.{all_as}
use Rattle.lrp_model.specs.Sorts.{time_count}
use Rattle.lrp_print.specs.Conditions.{after_where}

-- the lines of rows that are spelled in another way
pub rows_as : (cs ds : List Column) (rs ss : List Row) → cs ≡ ds → rs ≡ ss → flat_map (row_line cs) rs ≡ flat_map (row_line ds) ss
rows_as cs ds rs ss e d = ap (λ c. flat_map (row_line c) rs) e ∙ ap (flat_map (row_line ds)) d

-- the bounds of a row are its conditions
pub bounds_are : (cs : List Column) (bs : List Bound) → after_where (bound_bytes cs) bs ≡ bounds_bytes cs bs
bounds_are cs [] = refl
bounds_are cs (b ∷ bs) = refl

-- values of columns have periods
periods : (cs : List Column) (vs : List Value) → AreValuesOf cs vs → AllByRecursion HasLowPeriod vs
periods [] [] h = tt
periods [] (v ∷ vs) h = absurd h
periods (c ∷ cs) [] h = absurd h
periods (c ∷ cs) (Point p ∷ vs) h = (h.0.1, periods cs vs h.1)
periods (c ∷ cs) (Const t ∷ vs) h = (tt, periods cs vs h.1)

-- the rows that are kept can be written
pub kept_writable : (r : Relation) → IsKept r → AllByRecursion IsWritable r.rows
kept_writable r k = all_as (IsRowOf r.columns) IsWritable (λ row h. record { values = periods r.columns row.values h.values; bounds = all_as (IsBoundOf (time_count r.columns)) (λ b. neg_ℤ (pos greatest_number) ≤ℤ b.most) (λ b g. g.low) row.bounds h.bounds }) r.rows k.rows
