-- That relations which are written out read back, by the grammar of databases, as relations that hold the same.
use Rattle.std.specs.Prelude.{◌≡◌, ◌↔◌, List, [], ◌∷◌}
use Rattle.lrp_model.specs.Rows.{Datum, Holds}
use Rattle.lrp_model.specs.Printed.{database_bytes}
use Rattle.lrp_model.specs.DatabaseReading.{IsDatabase}
use Rattle.lrp_model.specs.declared.relations.Relation.{Relation}

-- the two have one name and the same columns, and hold the same tuples
pub record IsSame (r s : Relation) : Type 0 where
  pub name : s.name ≡ r.name
  pub columns : s.columns ≡ r.columns
  pub tuples : (tuple : List Datum) → Holds (r ∷ []) r.name tuple ↔ Holds (s ∷ []) s.name tuple

-- as many relations, the same one by one
abbrev pub AreSame : List Relation → List Relation → Type 0
AreSame [] [] = Unit {0}
AreSame (r ∷ rs) (s ∷ ss) = IsSame r s × AreSame rs ss
AreSame _ _ = ⊥

-- what is written of the relations is the text of a database, whose relations are the same
pub record ReadsBack (rs : List Relation) : Type 0 where
  pub read : List Relation
  pub database : IsDatabase (database_bytes rs) read
  pub same : AreSame rs read
