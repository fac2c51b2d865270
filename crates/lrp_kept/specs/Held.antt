-- The relations that a keeper stands for: their rows stand under keys.
use Rattle.std.specs.Prelude.{◌≡◌, ◌≤◌, ℕ, List, [], ◌∷◌, Option, Some, None, Contains, flat_map, map, slice_get}
use Rattle.slab.specs.Slab.{get}
use Rattle.lrp_model.specs.declared.relations.Row.{Row}
use Rattle.lrp_model.specs.declared.relations.Relation.{Relation}
use Rattle.lrp_model.specs.Texts.{Identifier}
use Rattle.lrp_kept.specs.Limits.{row_bound}
use Rattle.lrp_kept.specs.declared.rows.HeldRelation.{HeldRelation}
use Rattle.lrp_kept.specs.declared.rows.HeldRows.{HeldRows}
use Rattle.lrp_kept.specs.declared.rows.HeldRow.{HeldRow}

-- the row under a key, if there is one
abbrev pub held_row : Option HeldRow → List Row
held_row None = []
held_row (Some source) = source.row ∷ []

-- the relation with the rows under its keys, in order
abbrev pub held_relation : (ℕ → Option HeldRow) → HeldRelation → Relation
held_relation sources r = record { name = r.name; columns = r.columns; rows = flat_map (λ key. held_row (sources key)) r.keys.items }

-- those of all
abbrev pub relations_of : (ℕ → Option HeldRow) → List HeldRelation → List Relation
relations_of sources rs = map (held_relation sources) rs

-- the names of the relations
abbrev pub names_of : HeldRows → List Identifier
names_of rows = map (λ r. r.name) rows.relations.items

-- the greatest bounds that ever were
abbrev pub greatest_bounds : List HeldRelation → List ℕ
greatest_bounds rs = map (λ r. r.most) rs

-- no row has a bound above the greatest that its relation ever had
abbrev pub AreLowRows : HeldRows → Type 0
AreLowRows rows = (i key : ℕ) (r : HeldRelation) (source : HeldRow) → slice_get rows.relations.items i ≡ Some r → Contains r.keys.items key → get rows.sources key ≡ Some source → row_bound source.row ≤ r.most
