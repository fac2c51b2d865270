-- The faults of a written database that its grammar allows.
use Rattle.std.specs.Prelude.{◌==◌, not, ℕ, Bool, List, [], ◌∷◌, ◌++◌, map, flat_map, length}
use Rattle.lrp_model.specs.Texts.{Identifier}
use Rattle.lrp_model.specs.Sorts.{is_time}
use Rattle.lrp_model.specs.Faults.{standing, fault_if, repeated, ninth}
use Rattle.lrp_model.specs.Kinds.{database_number}
use Rattle.lrp_model.specs.DatabaseMeaning.{time_number}
use Rattle.lrp_model.specs.declared.tokens.Place.{Place}
use Rattle.lrp_model.specs.declared.faults.DbKind.{DbKind}
use Rattle.lrp_model.specs.declared.faults.DbKind.TheVariants.{Name, Arity, Sort, Column, Wide}
use Rattle.lrp_model.specs.declared.faults.DbFault.{DbFault}
use Rattle.lrp_model.specs.declared.raw.RawColumn.{RawColumn}
use Rattle.lrp_model.specs.declared.written.Located.{Located}
use Rattle.lrp_model.specs.declared.written.WrittenValue.{WrittenValue}
use Rattle.lrp_model.specs.declared.written.WrittenValue.TheVariants.{Constant, Instant, Point}
use Rattle.lrp_model.specs.declared.written.Side.{Side}
use Rattle.lrp_model.specs.declared.written.Side.TheVariants.{Alone, Column as side_column, Shifted}
use Rattle.lrp_model.specs.declared.written.RawRow.{RawRow}
use Rattle.lrp_model.specs.declared.written.RawRelation.{RawRelation}

abbrev pub database_fault : DbKind → Place → DbFault
database_fault k p = record { kind = k; place = p }

-- what faults of databases are ordered by
abbrev pub database_standing : DbFault → List ℕ
database_standing f = standing f.place (database_number f.kind)

-- the value may stand in a column of this sort: a text in one of a data sort, another value in a time column
abbrev pub suits : WrittenValue → RawColumn → Bool
suits (Constant t) c = not (is_time c.sort)
suits (Instant i) c = is_time c.sort
suits (Point i k) c = is_time c.sort

-- Sort: a text in a time column, or another value in a column of a data sort; at the value. Values after the last column have none: their number is the fault of the row
abbrev pub wrong_sorts : List RawColumn → List (Located WrittenValue) → List DbFault
wrong_sorts (c ∷ cs) (v ∷ vs) = fault_if (not (suits v.item c)) (database_fault Sort v.place) ++ wrong_sorts cs vs
wrong_sorts _ _ = []

-- Column: a name in a bound that is no time column; at the name
abbrev pub unknown : List RawColumn → Located Identifier → List DbFault
unknown cs n = fault_if (time_number 0 cs n.item == 0) (database_fault Column n.place)

-- the same of the right side, where a name stands there
abbrev pub side_faults : List RawColumn → Side → List DbFault
side_faults cs (Alone i) = []
side_faults cs (side_column n) = unknown cs n
side_faults cs (Shifted n down k) = unknown cs n

-- Arity: a row whose number of values is not the number of columns; at its parenthesis
abbrev pub row_faults : List RawColumn → Located RawRow → List DbFault
row_faults cs r = fault_if (not (length r.item.values == length cs)) (database_fault Arity r.place) ++ wrong_sorts cs r.item.values ++ flat_map (λ b. unknown cs b.left ++ side_faults cs b.side) r.item.bounds

abbrev pub named_at : RawColumn → Located Identifier
named_at c = record { place = c.place; item = c.name }

-- Name: a second column of one name; Wide: a ninth time column, or a ninth among those of all data sorts; at its name
abbrev pub relation_faults : RawRelation → List DbFault
relation_faults r = repeated (database_fault Name) [] (map named_at r.columns) ++ ninth (database_fault Wide) 0 0 r.columns ++ flat_map (row_faults r.columns) r.rows

-- Name: a second relation of one name
abbrev pub database_faults : List RawRelation → List DbFault
database_faults rs = repeated (database_fault Name) [] (map (λ r. r.name) rs) ++ flat_map relation_faults rs
