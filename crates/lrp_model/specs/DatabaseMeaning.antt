-- The relations that a written database means.
use Rattle.std.specs.Prelude.{◌+◌, ℕ, ℤ, pos, neg_ℤ, Bool, true, false, List, [], ◌∷◌, ◌++◌, map, flat_map, if◌then◌else◌}
use Rattle.std.specs.Str.{bytes_eq}
use Rattle.lrp_model.specs.Texts.{Identifier}
use Rattle.lrp_model.specs.Sorts.{is_time}
use Rattle.lrp_model.specs.declared.raw.RawColumn.{RawColumn}
use Rattle.lrp_model.specs.declared.relations.Column.{Column}
use Rattle.lrp_model.specs.declared.relations.Bound.{Bound}
use Rattle.lrp_model.specs.declared.relations.Value.{Value}
use Rattle.lrp_model.specs.declared.relations.Value.TheVariants.{Point as point, Const}
use Rattle.lrp_model.specs.declared.relations.Row.{Row}
use Rattle.lrp_model.specs.declared.relations.Relation.{Relation}
use Rattle.lrp_model.specs.declared.written.Located.{Located}
use Rattle.lrp_model.specs.declared.written.Integer.{Integer}
use Rattle.lrp_model.specs.declared.written.WrittenValue.{WrittenValue}
use Rattle.lrp_model.specs.declared.written.WrittenValue.TheVariants.{Constant, Instant, Point}
use Rattle.lrp_model.specs.declared.written.BoundOp.{BoundOp}
use Rattle.lrp_model.specs.declared.written.BoundOp.TheVariants.{AtMost, AtLeast, Equal}
use Rattle.lrp_model.specs.declared.written.Side.{Side}
use Rattle.lrp_model.specs.declared.written.Side.TheVariants.{Alone, Column as side_column, Shifted}
use Rattle.lrp_model.specs.declared.written.RawBound.{RawBound}
use Rattle.lrp_model.specs.declared.written.RawRow.{RawRow}
use Rattle.lrp_model.specs.declared.written.RawRelation.{RawRelation}

-- a number, or with the flag its negative
abbrev pub signed : Bool → ℕ → ℤ
signed true n = neg_ℤ (pos n)
signed false n = pos n

-- the integer that is written
abbrev pub integer_of : Integer → ℤ
integer_of i = signed i.negative i.size

-- a column without its places
abbrev pub column_of : RawColumn → Column
column_of c = record { name = c.name; sort = c.sort }

-- the number of the time column of this name, from 1 on, after so many; 0 where there is none, which is a fault of the database
abbrev pub time_number : ℕ → List RawColumn → Identifier → ℕ
time_number before [] n = 0
time_number before (c ∷ cs) n = if is_time c.sort then (if bytes_eq c.name n then before + 1 else time_number (before + 1) cs n) else time_number before cs n

-- a text, a point, or for an instant the point 0+1n
abbrev pub value_of : WrittenValue → Value
value_of (Constant t) = Const t
value_of (Instant i) = point (record { offset = pos 0; period = pos 1 })
value_of (Point i k) = point (record { offset = integer_of i; period = pos k })

-- left minus right is at most so much
abbrev pub bound_of : ℕ → ℕ → ℤ → Bound
bound_of left right most = record { left = left; right = right; most = most }

-- X <= Y + a, X >= Y + a and X = Y + a, as they are kept; column 0 is the number zero
abbrev pub kept : BoundOp → ℕ → ℕ → ℤ → List Bound
kept AtMost x y a = bound_of x y a ∷ []
kept AtLeast x y a = bound_of y x (neg_ℤ a) ∷ []
kept Equal x y a = bound_of x y a ∷ bound_of y x (neg_ℤ a) ∷ []

-- the bounds of X = v for an instant v, and then those of the further values; a text takes no time column
abbrev pub value_bounds : WrittenValue → ℕ → (ℕ → List Bound) → List Bound
value_bounds (Constant t) before further = further before
value_bounds (Instant i) before further = kept Equal (before + 1) 0 (integer_of i) ++ further (before + 1)
value_bounds (Point i k) before further = further (before + 1)

-- the bounds of the instants among the values, after so many time columns
abbrev pub instant_bounds : List (Located WrittenValue) → ℕ → List Bound
instant_bounds [] before = []
instant_bounds (v ∷ vs) before = value_bounds v.item before (instant_bounds vs)

-- the bounds that are kept of a written one
abbrev pub side_bounds : List RawColumn → BoundOp → ℕ → Side → List Bound
side_bounds cs op x (Alone i) = kept op x 0 (integer_of i)
side_bounds cs op x (side_column n) = kept op x (time_number 0 cs n.item) (pos 0)
side_bounds cs op x (Shifted n down k) = kept op x (time_number 0 cs n.item) (signed down k)

-- a written bound, by the numbers of its columns
abbrev pub kept_bounds : List RawColumn → RawBound → List Bound
kept_bounds cs b = side_bounds cs b.op (time_number 0 cs b.left.item) b.side

-- a row; the bounds of its instants come first
abbrev pub row_of : List RawColumn → RawRow → Row
row_of cs r = record { values = map (λ v. value_of v.item) r.values; bounds = instant_bounds r.values 0 ++ flat_map (kept_bounds cs) r.bounds }

-- a relation, without its places
abbrev pub relation_of : RawRelation → Relation
relation_of r = record { name = r.name.item; columns = map column_of r.columns; rows = map (λ row. row_of r.columns row.item) r.rows }

-- the relations, in order
abbrev pub database_of : List RawRelation → List Relation
database_of = map relation_of
