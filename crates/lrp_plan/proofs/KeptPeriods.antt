-- The periods in the rows of kept relations are at least 1.
use Rattle.std.proofs.Common.{◌≤◌, ◌≤ℤ◌, ℕ, suc, ℤ, pos, negsuc, nat_abs, List, [], ◌∷◌, flat_map, arith}
use Rattle.std.proofs.lemmas.Int.{ints}
use Rattle.std.specs.List.{AllByRecursion}
use Rattle.lrp_model.specs.Periods.{value_periods}
use Rattle.lrp_model.specs.declared.relations.Column.{Column}
use Rattle.lrp_model.specs.declared.relations.Value.{Value}
use Rattle.lrp_model.specs.declared.relations.Value.TheVariants.{Point, Const}
use Rattle.lrp_model.specs.declared.relations.Row.{Row}
use Rattle.lrp_model.specs.declared.relations.Relation.{Relation}
use Rattle.lrp_model.proofs.Logic.{all_append}
use Rattle.lrp_plan_laws.specs.Rising.{database_periods}
use Rattle.lrp_model.specs.Kept.{IsValueOf, AreValuesOf, IsRowOf, IsKept}

abbrev IsSome : ℕ → Type 0
IsSome k = 1 ≤ k

-- a period from 1 on
pub low : (z : ℤ) → pos 1 ≤ℤ z → 1 ≤ nat_abs z
low (pos n) h = let g : 1 ≤ n = omega (arith, ints) in g
low (negsuc n) h = let g : 1 ≤ suc n = omega arith in g

-- of a value
value_low : (c : Column) (v : Value) → IsValueOf c v → AllByRecursion IsSome (value_periods v)
value_low c (Point p) h = (low p.period h.1, tt)
value_low c (Const t) h = tt

-- of the values of a row
values_low : (cs : List Column) (vs : List Value) → AreValuesOf cs vs → AllByRecursion IsSome (flat_map value_periods vs)
values_low [] [] h = tt
values_low [] (v ∷ vs) h = absurd h
values_low (c ∷ cs) [] h = tt
values_low (c ∷ cs) (v ∷ vs) h = (all_append IsSome (value_periods v) (flat_map value_periods vs)).1 (value_low c v h.0, values_low cs vs h.1)

-- of rows
rows_low : (cs : List Column) (rows : List Row) → AllByRecursion (IsRowOf cs) rows → AllByRecursion IsSome (flat_map (λ row. flat_map value_periods row.values) rows)
rows_low cs [] h = tt
rows_low cs (row ∷ rows) h = (all_append IsSome (flat_map value_periods row.values) (flat_map (λ r. flat_map value_periods r.values) rows)).1 (values_low cs row.values h.0.values, rows_low cs rows h.1)

-- of relations
pub kept_low : (db : List Relation) → AllByRecursion IsKept db → AllByRecursion IsSome (database_periods db)
kept_low [] h = tt
kept_low (r ∷ rs) h = (all_append IsSome (flat_map (λ row. flat_map value_periods row.values) r.rows) (database_periods rs)).1 (rows_low r.columns r.rows h.0.rows, kept_low rs h.1)
