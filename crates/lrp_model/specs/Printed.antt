-- Relations as they are written out, and the numbers, data texts and points in them.
use Rattle.std.specs.Prelude.{◌-◌, ◌==◌, ◌||◌, ℕ, zero, suc, ℤ, pos, negsuc, neg_ℤ, List, [], ◌∷◌, ◌++◌, flat_map, if◌then◌else◌, codes}
use Rattle.std.specs.Int.{int_rem_euclid}
use Rattle.std.specs.Fmt.{decimal, signed_decimal}
use Rattle.lrp_model.specs.Texts.{Text, Identifier}
use Rattle.lrp_model.specs.Sorts.{is_time}
use Rattle.lrp_model.specs.declared.relations.Sort.{Sort}
use Rattle.lrp_model.specs.declared.relations.Sort.TheVariants.{Time, Data, Named}
use Rattle.lrp_model.specs.declared.relations.Column.{Column}
use Rattle.lrp_model.specs.declared.relations.Bound.{Bound}
use Rattle.lrp_model.specs.declared.relations.Value.{Value}
use Rattle.lrp_model.specs.declared.relations.Value.TheVariants.{Point, Const}
use Rattle.lrp_model.specs.declared.relations.RowPoint.{RowPoint}
use Rattle.lrp_model.specs.declared.relations.Row.{Row}
use Rattle.lrp_model.specs.declared.relations.Relation.{Relation}

-- the texts of the elements, with a separator between
abbrev pub joined_by : {A : Type 0} → List ℕ → (A → List ℕ) → List A → List ℕ
joined_by between text [] = []
joined_by between text (a ∷ []) = text a
joined_by between text (a ∷ b ∷ all) = text a ++ (between ++ joined_by between text (b ∷ all))

-- a quote or a backslash has a backslash before it
abbrev pub escaped : ℕ → List ℕ
escaped b = if (b == 34) || (b == 92) then 92 ∷ b ∷ [] else b ∷ []

-- a data text between quotes; its JSON text is the same
abbrev pub quoted : Text → List ℕ
quoted t = 34 ∷ (flat_map escaped t ++ 34 ∷ [])

-- c+kn, with c taken modulo k
abbrev pub point_bytes : RowPoint → List ℕ
point_bytes p = signed_decimal (int_rem_euclid p.offset p.period) ++ (codes "+" ++ (signed_decimal p.period ++ codes "n"))

abbrev pub value_bytes : Value → List ℕ
value_bytes (Point p) = point_bytes p
value_bytes (Const t) = quoted t

-- the name of a sort
abbrev pub sort_bytes : Sort → List ℕ
sort_bytes Time = codes "time"
sort_bytes Data = codes "data"
sort_bytes (Named n) = n

-- NAME: SORT
abbrev pub column_bytes : Column → List ℕ
column_bytes c = c.name ++ (codes ": " ++ sort_bytes c.sort)

-- the name of a time column by its number, from 1 on; a bound's columns are there, so the first case is not met
abbrev pub time_name : List Column → ℕ → Identifier
time_name [] i = []
time_name (c ∷ cs) i = if is_time c.sort then (if i == 1 then c.name else time_name cs (i - 1)) else time_name cs i

-- an offset after a name: nothing, ` + a` or ` - b`
abbrev pub offset_bytes : ℤ → List ℕ
offset_bytes (pos zero) = []
offset_bytes (pos (suc a)) = codes " + " ++ decimal (suc a)
offset_bytes (negsuc a) = codes " - " ++ decimal (suc a)

-- X >= b, X <= a, or X <= Y with an offset
abbrev pub bound_bytes : List Column → Bound → List ℕ
bound_bytes cs b =
    if b.left == 0 then time_name cs b.right ++ (codes " >= " ++ signed_decimal (neg_ℤ b.most)) else
    if b.right == 0 then time_name cs b.left ++ (codes " <= " ++ signed_decimal b.most) else
    time_name cs b.left ++ (codes " <= " ++ (time_name cs b.right ++ offset_bytes b.most))

-- the bounds after `where`, if there are any
abbrev pub bounds_bytes : List Column → List Bound → List ℕ
bounds_bytes cs [] = []
bounds_bytes cs (b ∷ bs) = codes " where " ++ joined_by (codes ", ") (bound_bytes cs) (b ∷ bs)

-- two blanks, the values in parentheses, the bounds and `;`, on a line
abbrev pub row_line : List Column → Row → List ℕ
row_line cs r = codes "  (" ++ (joined_by (codes ", ") value_bytes r.values ++ (codes ")" ++ (bounds_bytes cs r.bounds ++ codes ";\n")))

-- a line with the name and the columns, a line for each row, and a line with `}`
abbrev pub relation_bytes : Relation → List ℕ
relation_bytes r = codes "relation " ++ (r.name ++ (codes "(" ++ (joined_by (codes ", ") column_bytes r.columns ++ (codes ") {\n" ++ (flat_map (row_line r.columns) r.rows ++ codes "}\n")))))

-- the relations of a database, in order
abbrev pub database_bytes : List Relation → List ℕ
database_bytes = flat_map relation_bytes
