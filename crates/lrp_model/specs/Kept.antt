-- What a database keeps of its relations.
use Rattle.std.specs.Prelude.{◌≡◌, ◌≤◌, ◌<◌, ◌+◌, ◌≤ℤ◌, ℕ, pos, neg_ℤ, true, false, List, [], ◌∷◌, map}
use Rattle.std.specs.List.{AllByRecursion}
use Rattle.lrp_model.specs.Texts.{AreDistinct}
use Rattle.lrp_model.specs.DataTexts.{IsDataText}
use Rattle.lrp_model.specs.Sorts.{is_time, time_count, text_count}
use Rattle.lrp_model.specs.Names.{IsName, AreNamed}
use Rattle.lrp_model.specs.Limits.{greatest_number}
use Rattle.lrp_model.specs.declared.relations.Column.{Column}
use Rattle.lrp_model.specs.declared.relations.Bound.{Bound}
use Rattle.lrp_model.specs.declared.relations.Value.{Value}
use Rattle.lrp_model.specs.declared.relations.Value.TheVariants.{Point, Const}
use Rattle.lrp_model.specs.declared.relations.Row.{Row}
use Rattle.lrp_model.specs.declared.relations.Relation.{Relation}

-- a value of the column's sort; the period of a point is from 1 to 2 ^ 62
abbrev pub IsValueOf : Column → Value → Type 0
IsValueOf c (Point p) = (is_time c.sort ≡ true) × (pos 1 ≤ℤ p.period) × (p.period ≤ℤ pos greatest_number)
IsValueOf c (Const t) = (is_time c.sort ≡ false) × IsDataText t

-- a point of a period of at least 1, or a text
abbrev pub HasLowPeriod : Value → Type 0
HasLowPeriod (Point p) = pos 1 ≤ℤ p.period
HasLowPeriod (Const t) = Unit {0}

-- what can be written of a row: its points have periods, and its bounds have a magnitude of at most 2 ^ 62
pub record IsWritable (row : Row) : Type 0 where
  pub values : AllByRecursion HasLowPeriod row.values
  pub bounds : AllByRecursion (λ b. neg_ℤ (pos greatest_number) ≤ℤ b.most) row.bounds

-- one value for each column
abbrev pub AreValuesOf : List Column → List Value → Type 0
AreValuesOf [] [] = Unit {0}
AreValuesOf (c ∷ cs) (v ∷ vs) = IsValueOf c v × AreValuesOf cs vs
AreValuesOf _ _ = ⊥

-- a bound between two of so many time columns, one of which may be 0, of a magnitude of at most 2 ^ 62
pub record IsBoundOf (times : ℕ) (b : Bound) : Type 0 where
  pub left : b.left ≤ times
  pub right : b.right ≤ times
  pub some : 0 < b.left + b.right
  pub low : neg_ℤ (pos greatest_number) ≤ℤ b.most
  pub high : b.most ≤ℤ pos greatest_number

-- a row of the columns
pub record IsRowOf (columns : List Column) (row : Row) : Type 0 where
  pub values : AreValuesOf columns row.values
  pub bounds : AllByRecursion (IsBoundOf (time_count columns)) row.bounds

-- what is kept of each relation
pub record IsKept (r : Relation) : Type 0 where
  pub name : IsName r.name
  pub columns : AreNamed r.columns
  pub differ : AreDistinct (map (λ c. c.name) r.columns)
  pub times : time_count r.columns ≤ 8
  pub texts : text_count r.columns ≤ 8
  pub rows : AllByRecursion (IsRowOf r.columns) r.rows

-- what is kept of all of them
pub record AreKept (rs : List Relation) : Type 0 where
  pub each : AllByRecursion IsKept rs
  pub differ : AreDistinct (map (λ r. r.name) rs)
