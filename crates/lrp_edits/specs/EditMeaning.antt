-- What edits of a database mean, and their faults that the grammar allows.
use Rattle.std.specs.Prelude.{◌≡◌, ◌<◌, ◌^◌, List, [], ◌∷◌, Option, Some, None, map, flat_map, length}
use Rattle.lrp_model.specs.Texts.{Text}
use Rattle.lrp_model.specs.Lexing.{start}
use Rattle.lrp_model.specs.Rows.{relation_named, columns_in}
use Rattle.lrp_model.specs.Domains.{row_texts}
use Rattle.lrp_model.specs.DatabaseMeaning.{row_of}
use Rattle.lrp_model.specs.DatabaseFaults.{database_fault, row_faults}
use Rattle.lrp_model.specs.declared.raw.RawColumn.{RawColumn}
use Rattle.lrp_model.specs.declared.relations.Sort.{Sort}
use Rattle.lrp_model.specs.declared.relations.Column.{Column}
use Rattle.lrp_model.specs.declared.relations.Relation.{Relation}
use Rattle.lrp_model.specs.declared.faults.DbFault.{DbFault}
use Rattle.lrp_model.specs.declared.faults.DbKind.TheVariants.{UnknownRelation}
use Rattle.lrp_model.specs.Kept.{IsRowOf}
use Rattle.lrp_edits.specs.declared.edits.Edit.{Edit}
use Rattle.lrp_edits.specs.declared.edits.RawEdit.{RawEdit}

-- a column as a text may write it; its places do not count
abbrev pub written_column : Column → RawColumn
written_column c = record { name = c.name; place = start; sort = c.sort; sort_place = start }

abbrev pub written_columns : List Column → List RawColumn
written_columns = map written_column

-- what an edit means where a relation of its name has these columns
abbrev pub edit_with : List RawColumn → RawEdit → Edit
edit_with cs e = record { add = e.add; relation = e.relation.item; row = row_of cs e.row.item }

-- what an edit of a database means
abbrev pub edit_of : List Relation → RawEdit → Edit
edit_of db e = edit_with (written_columns (columns_in (relation_named db e.relation.item))) e

-- UnknownRelation: a name that is no relation, at the name, and no other fault; else those of the row, as rows of the relation have them
abbrev pub faults_in : Option Relation → RawEdit → List DbFault
faults_in None e = database_fault UnknownRelation e.relation.place ∷ []
faults_in (Some r) e = row_faults (written_columns r.columns) e.row

-- the faults of an edit of a database
abbrev pub edit_faults : List Relation → RawEdit → List DbFault
edit_faults db e = faults_in (relation_named db e.relation.item) e

-- those of all edits, in order
abbrev pub edits_faults : List Relation → List RawEdit → List DbFault
edits_faults db = flat_map (edit_faults db)

-- the data texts in the row of an edit, each with the sort of its column
abbrev pub edit_texts : List Relation → Edit → List (Sort × Text)
edit_texts db e = row_texts (columns_in (relation_named db e.relation)) e.row.values

-- those of all edits are fewer than 2 ^ 24
abbrev pub HaveFewTexts : List Relation → List Edit → Type 0
HaveFewTexts db es = length (flat_map (edit_texts db) es) < 2 ^ 24

-- the name is that of a relation, and the row is one of its columns
pub record IsEditOf (db : List Relation) (e : Edit) : Type 0 where
  pub relation : Relation
  pub named : relation_named db e.relation ≡ Some relation
  pub row : IsRowOf relation.columns e.row
