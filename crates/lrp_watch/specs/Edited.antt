-- The relations of a database after edits.
use Rattle.std.specs.Prelude.{◌≡◌, ◌⊎◌, Bool, true, false, List, [], ◌∷◌}
use Rattle.lrp_model.specs.Rows.{rows_of}
use Rattle.lrp_model.specs.Texts.{Identifier}
use Rattle.lrp_model.specs.declared.relations.Relation.{Relation}
use Rattle.lrp_model.specs.declared.relations.Row.{Row}
use Rattle.lrp_edits.specs.declared.edits.Edit.{Edit}
use Rattle.lrp_keep.specs.Keeps.{HasNoEqual, IsTakenOut, with_row}
use Rattle.lrp_keep.specs.Replaced.{replaced}

-- the first row of the relation that is equal is taken out
pub record IsWithoutRow (name : Identifier) (row : Row) (old new : List Relation) : Type 0 where
  pub rows : List Row
  pub taken : IsTakenOut row (rows_of old name) rows
  pub is : new ≡ replaced old name rows

-- a row is added, or the first one that is equal is taken out; where none is, nothing changes
abbrev pub IsEditedBy : Bool → Identifier → Row → List Relation → List Relation → Type 0
IsEditedBy true name row old new = new ≡ with_row old name row
IsEditedBy false name row old new = IsWithoutRow name row old new ⊎ (HasNoEqual row (rows_of old name) × (new ≡ old))

-- an edit is made
abbrev pub IsEdited : Edit → List Relation → List Relation → Type 0
IsEdited e = IsEditedBy e.add e.relation e.row

-- edits are made one after another: the relations after each
abbrev pub AreEdited : List Edit → List Relation → List (List Relation) → Type 0
AreEdited [] db later = later ≡ []
AreEdited (e ∷ es) db [] = ⊥
AreEdited (e ∷ es) db (next ∷ later) = IsEdited e db next × AreEdited es next later
