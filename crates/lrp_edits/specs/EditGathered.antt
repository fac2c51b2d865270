-- What a reader of edits keeps: the columns of the database's relations, what the edits mean, and the first of their faults.
use Rattle.std.specs.Prelude.{◌≡◌, ◌++◌, ℕ, List, [], ◌∷◌, map, Option, Some, None}
use Rattle.lrp_model.specs.Faults.{earliest}
use Rattle.lrp_model.specs.DatabaseFaults.{database_standing}
use Rattle.lrp_model.specs.declared.relations.Relation.{Relation}
use Rattle.lrp_model.specs.declared.faults.DbFault.{DbFault}
use Rattle.lrp_edits.specs.declared.edits.Edit.{Edit}
use Rattle.lrp_edits.specs.declared.edits.RawEdit.{RawEdit}
use Rattle.lrp_edits.specs.declared.edits.Edits.{Edits}
use Rattle.lrp_rel.specs.declared.gathering.Heading.{Heading}
use Rattle.lrp_model.specs.Sooner.{sooner}
use Rattle.lrp_rel.specs.Gathered.{IsHeading}
use Rattle.lrp_edits.specs.EditMeaning.{written_columns, edit_of, edits_faults}
use Rattle.lrp_edits.specs.EditReading.{IsEditsText}

-- the heading of a relation's columns, which have no fault
pub record IsHeadingOf (r : Relation) (heading : Heading) : Type 0 where
  pub heads : IsHeading heading
  pub columns : heading.columns ≡ written_columns r.columns
  pub sound : heading.fault ≡ None

-- a heading for each relation, in order
abbrev pub AreHeadings : List Relation → List Heading → Type 0
AreHeadings [] [] = Unit {0}
AreHeadings (r ∷ rs) (h ∷ hs) = IsHeadingOf r h × AreHeadings rs hs
AreHeadings _ _ = ⊥

-- the heading of a relation, where there is one
abbrev pub IsHeadingIn : Option Relation → Option Heading → Type 0
IsHeadingIn None None = Unit {0}
IsHeadingIn (Some r) (Some h) = IsHeadingOf r h
IsHeadingIn _ _ = ⊥

-- one edit more, with these faults and this meaning
pub record TakesEdit (faults : List DbFault) (meaning : Edit) (old new : Edits) : Type 0 where
  pub fault : new.fault ≡ sooner database_standing old.fault (earliest database_standing faults)
  pub meant : new.fault ≡ None → new.list ≡ old.list ++ meaning ∷ []

-- the first fault of the edits, and what they mean where they have none
pub record AreEditsOf (db : List Relation) (tree : List RawEdit) (edits : Edits) : Type 0 where
  pub fault : edits.fault ≡ earliest database_standing (edits_faults db tree)
  pub meant : edits.fault ≡ None → edits.list ≡ map (edit_of db) tree

-- the bytes are a text of the grammar, and what is kept is what its edits say
pub record AreEditsFrom (bytes : List ℕ) (db : List Relation) (edits : Edits) : Type 0 where
  pub tree : List RawEdit
  pub text : IsEditsText bytes tree
  pub are : AreEditsOf db tree edits
