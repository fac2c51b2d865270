-- What reading edits of a database means: the edits of a text, or the fault that is reported.
use Rattle.std.specs.Prelude.{◌≡◌, ℕ, List, [], Some, map}
use Rattle.lrp_model.specs.declared.tokens.Place.{Place}
use Rattle.lrp_model.specs.declared.tokens.Fault.{Fault as TokenFault}
use Rattle.lrp_model.specs.declared.tokens.Fault.TheVariants.{Syntax as syntax, Number as number, TextTooLong as text_too_long, Period as period}
use Rattle.lrp_model.specs.declared.faults.DbFault.{DbFault}
use Rattle.lrp_model.specs.declared.faults.DbKind.{DbKind}
use Rattle.lrp_model.specs.declared.faults.DbKind.TheVariants.{Utf8, Syntax, Number, Period, TextTooLong, Name, Arity, Sort, Column, Wide, UnknownRelation}
use Rattle.lrp_model.specs.declared.relations.Relation.{Relation}
use Rattle.lrp_model.specs.Refused.{TextOf, IsLawfulText, IsRefusedText}
use Rattle.lrp_model.specs.Faults.{earliest}
use Rattle.lrp_model.specs.DatabaseFaults.{database_standing}
use Rattle.lrp_model.specs.DatabaseReading.{IsNoUtf8}
use Rattle.lrp_edits.specs.declared.edits.Edit.{Edit}
use Rattle.lrp_edits.specs.declared.edits.RawEdit.{RawEdit}
use Rattle.lrp_rel.specs.declared.trees.ReadFault.{ReadFault}
use Rattle.lrp_rel.specs.declared.trees.ReadFault.TheVariants.{Fault, Memory}
use Rattle.lrp_edits.specs.EditTexts.{edits_text, FitsEdits}
use Rattle.lrp_edits.specs.EditMeaning.{edit_of, edits_faults}

-- the bytes are a lawful text of the grammar, of these written edits
abbrev pub IsEditsText : List ℕ → List RawEdit → Type 0
IsEditsText = IsLawfulText edits_text FitsEdits

-- the bytes are edits of the database, and these are what they say
pub record SaysEdits (bytes : List ℕ) (db : List Relation) (edits : List Edit) : Type 0 where
  pub tree : List RawEdit
  pub text : IsEditsText bytes tree
  pub sound : edits_faults db tree ≡ []
  pub meant : edits ≡ map (edit_of db) tree

-- UTF-8, and refused by the grammar at this place
abbrev pub IsNoEditsText : List ℕ → TokenFault → Place → Type 0
IsNoEditsText = IsRefusedText (TextOf edits_text FitsEdits)

-- a lawful text, whose edits of the database have this fault as their first
pub record HasEditsFault (bytes : List ℕ) (db : List Relation) (fault : DbFault) : Type 0 where
  pub tree : List RawEdit
  pub text : IsEditsText bytes tree
  pub found : earliest database_standing (edits_faults db tree) ≡ Some fault

-- the one fault that is reported: of the bytes, else of the grammar, else of the edits; these bring no names and no columns
abbrev pub IsEditsFaultOf : List ℕ → List Relation → DbKind → DbFault → Type 0
IsEditsFaultOf bytes db Utf8 f = IsNoUtf8 bytes f.place
IsEditsFaultOf bytes db Syntax f = IsNoEditsText bytes syntax f.place
IsEditsFaultOf bytes db Number f = IsNoEditsText bytes number f.place
IsEditsFaultOf bytes db TextTooLong f = IsNoEditsText bytes text_too_long f.place
IsEditsFaultOf bytes db Period f = IsNoEditsText bytes period f.place
IsEditsFaultOf bytes db Arity f = HasEditsFault bytes db f
IsEditsFaultOf bytes db Sort f = HasEditsFault bytes db f
IsEditsFaultOf bytes db Column f = HasEditsFault bytes db f
IsEditsFaultOf bytes db UnknownRelation f = HasEditsFault bytes db f
IsEditsFaultOf bytes db Name f = ⊥
IsEditsFaultOf bytes db Wide f = ⊥

abbrev pub IsEditsFault : List ℕ → List Relation → DbFault → Type 0
IsEditsFault bytes db f = IsEditsFaultOf bytes db f.kind f

-- why there are no edits: their one fault, or want of memory
abbrev pub AreEditsRefused : List ℕ → List Relation → ReadFault → Type 0
AreEditsRefused bytes db (Fault f) = IsEditsFault bytes db f
AreEditsRefused bytes db Memory = Unit {0}
