-- The texts of a kept database stand in data columns.
use Rattle.std.proofs.Common.{◌≡◌, true, not, List, [], ◌∷◌, flat_map, ap}
use Rattle.std.specs.List.{AllByRecursion}
use Rattle.lrp_model.specs.Texts.{Text}
use Rattle.lrp_model.specs.Domains.{row_texts}
use Rattle.lrp_model.specs.Sorts.{is_data}
use Rattle.lrp_model.specs.declared.relations.Sort.{Sort}
use Rattle.lrp_model.specs.declared.relations.Column.{Column}
use Rattle.lrp_model.specs.declared.relations.Value.{Value}
use Rattle.lrp_model.specs.declared.relations.Value.TheVariants.{Point, Const}
use Rattle.lrp_model.specs.declared.relations.Row.{Row}
use Rattle.lrp_model.specs.declared.relations.Relation.{Relation}
use Rattle.lrp_top.proofs.Lists.{both_all}
use Rattle.lrp_plan_laws.specs.Settled.{HasSortedTexts}
use Rattle.lrp_model.specs.Kept.{AreValuesOf, IsKept, IsRowOf}

-- a text with a data sort
abbrev IsPlaced : Sort × Text → Type 0
IsPlaced entry = is_data entry.0 ≡ true

-- of a row
values_placed : (cs : List Column) (vs : List Value) → AreValuesOf cs vs → AllByRecursion IsPlaced (row_texts cs vs)
values_placed [] [] h = tt
values_placed [] (v ∷ vs) h = absurd h
values_placed (c ∷ cs) [] h = tt
values_placed (c ∷ cs) (Point p ∷ vs) h = values_placed cs vs h.1
values_placed (c ∷ cs) (Const t ∷ vs) h = (ap not h.0.0, values_placed cs vs h.1)

-- of rows
rows_placed : (cs : List Column) (rows : List Row) → AllByRecursion (IsRowOf cs) rows → AllByRecursion IsPlaced (flat_map (λ row. row_texts cs row.values) rows)
rows_placed cs [] h = tt
rows_placed cs (row ∷ rows) h = both_all IsPlaced (row_texts cs row.values) (flat_map (λ r. row_texts cs r.values) rows) (values_placed cs row.values h.0.values) (rows_placed cs rows h.1)

-- of relations
pub texts_placed : (db : List Relation) → AllByRecursion IsKept db → HasSortedTexts db
texts_placed [] h = tt
texts_placed (r ∷ rs) h = both_all IsPlaced (flat_map (λ row. row_texts r.columns row.values) r.rows) (flat_map (λ s. flat_map (λ row. row_texts s.columns row.values) s.rows) rs) (rows_placed r.columns r.rows h.0.rows) (texts_placed rs h.1)
