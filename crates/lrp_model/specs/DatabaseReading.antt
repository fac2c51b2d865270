-- What reading a database means: the relations of a text, or the fault that is reported.
use Rattle.std.specs.Prelude.{◌≡◌, ℕ, List, [], Some, take}
use Rattle.std.specs.Str.{IsValidUpTo}
use Rattle.lrp_model.specs.declared.tokens.Place.{Place}
use Rattle.lrp_model.specs.declared.tokens.Fault.{Fault}
use Rattle.lrp_model.specs.declared.tokens.Fault.TheVariants.{Syntax as syntax, Number as number, TextTooLong as text_too_long, Period as period}
use Rattle.lrp_model.specs.Lexing.{after, start}
use Rattle.lrp_model.specs.Refused.{TextOf, IsLawfulText, IsRefusedText}
use Rattle.lrp_model.specs.Faults.{earliest}
use Rattle.lrp_model.specs.declared.relations.Relation.{Relation}
use Rattle.lrp_model.specs.declared.faults.DbFault.{DbFault}
use Rattle.lrp_model.specs.declared.faults.DbKind.{DbKind}
use Rattle.lrp_model.specs.declared.faults.DbKind.TheVariants.{Utf8, Syntax, Number, Period, TextTooLong, Name, Arity, Sort, Column, Wide, UnknownRelation}
use Rattle.lrp_model.specs.declared.written.RawRelation.{RawRelation}
use Rattle.lrp_model.specs.Databases.{database_text, FitsDatabase}
use Rattle.lrp_model.specs.DatabaseMeaning.{database_of}
use Rattle.lrp_model.specs.DatabaseFaults.{database_standing, database_faults}

-- the bytes are a lawful text of the grammar, of this written tree
abbrev pub IsDatabaseText : List ℕ → List RawRelation → Type 0
IsDatabaseText = IsLawfulText database_text FitsDatabase

-- the bytes are a database, with these relations
pub record IsDatabase (bytes : List ℕ) (db : List Relation) : Type 0 where
  pub tree : List RawRelation
  pub text : IsDatabaseText bytes tree
  pub sound : database_faults tree ≡ []
  pub meant : db ≡ database_of tree

-- the bytes are no UTF-8; the place is after their longest front that is
pub record IsNoUtf8 (bytes : List ℕ) (place : Place) : Type 0 where
  pub valid : ℕ
  pub longest : IsValidUpTo bytes valid
  pub place_is : place ≡ after start (take valid bytes)

-- UTF-8, and refused by the grammar at this place
abbrev pub IsNoDatabaseText : List ℕ → Fault → Place → Type 0
IsNoDatabaseText = IsRefusedText (TextOf database_text FitsDatabase)

-- a lawful text, whose tree has this fault as its earliest
pub record HasDatabaseFault (bytes : List ℕ) (fault : DbFault) : Type 0 where
  pub tree : List RawRelation
  pub text : IsDatabaseText bytes tree
  pub found : earliest database_standing (database_faults tree) ≡ Some fault

-- the one fault that is reported: of the bytes, else of the grammar, else of the tree; no database names a relation that is not its own
abbrev pub IsDatabaseFaultOf : List ℕ → DbKind → DbFault → Type 0
IsDatabaseFaultOf bytes Utf8 f = IsNoUtf8 bytes f.place
IsDatabaseFaultOf bytes Syntax f = IsNoDatabaseText bytes syntax f.place
IsDatabaseFaultOf bytes Number f = IsNoDatabaseText bytes number f.place
IsDatabaseFaultOf bytes TextTooLong f = IsNoDatabaseText bytes text_too_long f.place
IsDatabaseFaultOf bytes Period f = IsNoDatabaseText bytes period f.place
IsDatabaseFaultOf bytes Name f = HasDatabaseFault bytes f
IsDatabaseFaultOf bytes Arity f = HasDatabaseFault bytes f
IsDatabaseFaultOf bytes Sort f = HasDatabaseFault bytes f
IsDatabaseFaultOf bytes Column f = HasDatabaseFault bytes f
IsDatabaseFaultOf bytes Wide f = HasDatabaseFault bytes f
IsDatabaseFaultOf bytes UnknownRelation f = ⊥

-- the same, by the kind that the fault has
abbrev pub IsDatabaseFault : List ℕ → DbFault → Type 0
IsDatabaseFault bytes f = IsDatabaseFaultOf bytes f.kind f
