-- The text of a whole answer: the relation `answer`, with a row for each zone of each cell, or `Empty`.
use Rattle.std.specs.Prelude.{◌==◌, ◌+◌, ℕ, zero, suc, ℤ, pos, List, [], ◌∷◌, map, take, Option, Some, None, if◌then◌else◌, codes}
use Rattle.std.specs.Int.{int_min}
use Rattle.std.specs.List.{flat_map, range_with_len}
use Rattle.std.specs.FinMap as finite
use Rattle.lrp_theory.specs.Bounds.{plus}
use Rattle.lrp_theory.specs.Entries.{entry}
use Rattle.lrp_model.specs.Texts.{Text, Identifier}
use Rattle.lrp_model.specs.Rows.{Datum, time, text}
use Rattle.lrp_model.specs.Printed.{point_bytes, relation_bytes}
use Rattle.lrp_model.specs.Tuples.{in_head_order, texts_at}
use Rattle.lrp_model.specs.declared.relations.Bound.{Bound}
use Rattle.lrp_model.specs.declared.relations.Column.{Column}
use Rattle.lrp_model.specs.declared.relations.Relation.{Relation}
use Rattle.lrp_model.specs.declared.relations.Row.{Row}
use Rattle.lrp_model.specs.declared.relations.Value.{Value}
use Rattle.lrp_model.specs.declared.relations.Value.TheVariants.{Point, Const}
use Rattle.lrp_model.specs.declared.tuples.Cell.{Cell}
use Rattle.lrp_zone.specs.Zones.{ZoneView, columns_of}
use Rattle.lrp_store.specs.Stores.{StoreView, zone_of, tables_at}
use Rattle.lrp_answers.specs.declared.answer.Answer.{Answer}

-- the lesser of two bounds
abbrev pub lesser : Option ℤ → Option ℤ → Option ℤ
lesser None e = e
lesser (Some a) None = Some a
lesser (Some a) (Some b) = Some (int_min a b)

-- the least sum of stored bounds along a path from node i to node j whose inner nodes are below k
abbrev pub shortest : List (Option ℤ) → ℕ → ℕ → ℕ → Option ℤ
shortest bounds zero i j = entry bounds i j
shortest bounds (suc k) i j = lesser (shortest bounds k i j) (plus (shortest bounds k i k) (shortest bounds k k j))

-- the bound of node i minus node j, where there is one and the nodes are two
abbrev pub bound_between : ℕ → ℕ → Option ℤ → List Bound
bound_between i j None = []
bound_between i j (Some a) = if i == j then [] else record { left = i; right = j; most = a } ∷ []

-- the bounds between so many nodes that stand in a row of a table, and those of all rows, row by row
abbrev pub bounds_in_row : ℕ → (ℕ → ℕ → Option ℤ) → ℕ → List Bound
bounds_in_row nodes table i = flat_map (λ j. bound_between i j (table i j)) (range_with_len 0 nodes)

abbrev pub bounds_in : ℕ → (ℕ → ℕ → Option ℤ) → List Bound
bounds_in nodes table = flat_map (bounds_in_row nodes table) (range_with_len 0 nodes)

-- the closed bounds of a zone
abbrev pub closed_bounds : ZoneView → List Bound
closed_bounds z = let nodes = columns_of z + 1 in bounds_in nodes (shortest z.bounds nodes)

-- a residue as it is written: as the point of the period
abbrev pub residue_point : ℤ → ℤ → List ℕ
residue_point period residue = point_bytes (record { offset = residue; period = period })

-- a residue as the point of the period, and a text as it is
abbrev pub answer_value : ℤ → Datum → Value
answer_value period (time residue) = Point (record { offset = residue; period = period })
answer_value period (text t) = Const t

-- the residues and the texts of a cell, in head order
abbrev pub cell_values : List Column → List Text → StoreView → Cell → List Value
cell_values columns domain s cell = map (answer_value (pos s.period)) (in_head_order columns (take s.shape.times cell.residues) (texts_at domain (take s.shape.texts cell.texts)))

-- the row of a zone
abbrev pub answer_row : List Column → List Text → StoreView → Cell → List (Option ℤ) → Row
answer_row columns domain s cell table = record { values = cell_values columns domain s cell; bounds = closed_bounds (zone_of s cell table) }

-- the rows of the zones of a cell, and those of all cells, in order
abbrev pub cell_rows : List Column → List Text → StoreView → Cell → List Row
cell_rows columns domain s cell = map (answer_row columns domain s cell) (tables_at s cell)

abbrev pub answer_rows : List Column → List Text → StoreView → List Row
answer_rows columns domain s = flat_map (cell_rows columns domain s) (finite.keys s.tables)

-- the answer as a relation of a name
abbrev pub named_relation : Identifier → Answer → Relation
named_relation n a = record { name = n; columns = a.head.columns; rows = answer_rows a.head.columns a.domain a.store }

-- the line `Empty` where no cell is held, and else that relation as it is written out
abbrev pub named_answer_text : Identifier → Answer → List ℕ
named_answer_text n a = if finite.len a.store.tables == 0 then codes "Empty\n" else relation_bytes (named_relation n a)

-- the same of the name that it has where no other is asked for
abbrev pub answer_relation : Answer → Relation
answer_relation = named_relation (codes "answer")

abbrev pub answer_text : Answer → List ℕ
answer_text = named_answer_text (codes "answer")
