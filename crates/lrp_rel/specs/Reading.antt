-- What reading the text of a database means.
use Rattle.std.specs.Prelude.{◌≡◌, ◌<◌, ◌≤◌, ◌^◌, ℕ, List, [], Some, length, Result, Ok, Err}
use Rattle.lrp_model.specs.declared.tokens.Fault.{Fault as TokenFault}
use Rattle.lrp_model.specs.declared.tokens.Fault.TheVariants.{Syntax as syntax, Number as number, TextTooLong as text_too_long, Period as period, Deep, Memory as memory}
use Rattle.lrp_model.specs.declared.tokens.Place.{Place}
use Rattle.lrp_model.specs.declared.faults.DbFault.{DbFault}
use Rattle.lrp_model.specs.declared.faults.DbKind.{DbKind}
use Rattle.lrp_model.specs.declared.faults.DbKind.TheVariants.{Utf8, Syntax, Number, Period, TextTooLong, Name, Arity, Sort, Column, Wide, UnknownRelation}
use Rattle.lrp_model.specs.Faults.{earliest}
use Rattle.lrp_model.specs.DatabaseMeaning.{database_of}
use Rattle.lrp_model.specs.Domains.{database_texts}
use Rattle.lrp_model.specs.DatabaseFaults.{database_standing, database_faults}
use Rattle.lrp_model.specs.DatabaseReading.{IsNoUtf8, IsNoDatabaseText, IsDatabaseText, IsDatabaseFault}
use Rattle.lrp_model.specs.declared.relations.Relation.{Relation}
use Rattle.lrp_model.specs.declared.written.RawRelation.{RawRelation}
use Rattle.lrp_rel.specs.Gathered.{AreRelationsGathered}
use Rattle.lrp_rel.specs.declared.gathering.Gathered.{Gathered}
use Rattle.lrp_rel.specs.declared.trees.ReadFault.{ReadFault}
use Rattle.lrp_rel.specs.declared.trees.ReadFault.TheVariants.{Fault, Memory}
use Rattle.lrp_model.specs.Limits.{most_bytes}

-- a database has fewer than 2 ^ 24 data texts in its rows
abbrev pub HasFewTexts : List Relation → Type 0
HasFewTexts relations = length (database_texts relations) < 2 ^ 24

-- a fault of the bytes, or one of the grammar
abbrev pub IsDatabaseTextFaultOf : List ℕ → DbKind → DbFault → Type 0
IsDatabaseTextFaultOf bytes Utf8 f = IsNoUtf8 bytes f.place
IsDatabaseTextFaultOf bytes Syntax f = IsNoDatabaseText bytes syntax f.place
IsDatabaseTextFaultOf bytes Number f = IsNoDatabaseText bytes number f.place
IsDatabaseTextFaultOf bytes TextTooLong f = IsNoDatabaseText bytes text_too_long f.place
IsDatabaseTextFaultOf bytes Period f = IsNoDatabaseText bytes period f.place
IsDatabaseTextFaultOf bytes Name f = ⊥
IsDatabaseTextFaultOf bytes Arity f = ⊥
IsDatabaseTextFaultOf bytes Sort f = ⊥
IsDatabaseTextFaultOf bytes Column f = ⊥
IsDatabaseTextFaultOf bytes Wide f = ⊥
IsDatabaseTextFaultOf bytes UnknownRelation f = ⊥

-- the same by its own kind
abbrev pub IsDatabaseTextFault : List ℕ → DbFault → Type 0
IsDatabaseTextFault bytes f = IsDatabaseTextFaultOf bytes f.kind f

-- why there is no tree: a fault of the text, or want of memory
abbrev pub IsUnreadDatabase : List ℕ → ReadFault → Type 0
IsUnreadDatabase bytes (Fault f) = IsDatabaseTextFault bytes f
IsUnreadDatabase bytes Memory = Unit {0}

-- why there is no database: its one fault, or want of memory
abbrev pub IsRefusedBy : List ℕ → ReadFault → Type 0
IsRefusedBy bytes (Fault f) = IsDatabaseFault bytes f
IsRefusedBy bytes Memory = Unit {0}

-- the bytes are a text of the grammar, and what is gathered is what its tree says
pub record IsGatheredFrom (bytes : List ℕ) (gathered : Gathered) : Type 0 where
  pub tree : List RawRelation
  pub text : IsDatabaseText bytes tree
  pub are : AreRelationsGathered tree gathered

-- the same of some bytes that are few enough
pub record IsGatheredFromText (gathered : Gathered) : Type 0 where
  pub bytes : List ℕ
  pub short : length bytes ≤ most_bytes
  pub said : IsGatheredFrom bytes gathered

-- the relations that a tree without faults means
pub record IsSoundTree (tree : List RawRelation) (db : List Relation) : Type 0 where
  pub sound : database_faults tree ≡ []
  pub meant : db ≡ database_of tree

-- why a tree has no meaning: its first fault, or want of memory
abbrev pub IsTreeRefusal : List RawRelation → ReadFault → Type 0
IsTreeRefusal tree (Fault f) = earliest database_standing (database_faults tree) ≡ Some f
IsTreeRefusal tree Memory = Unit {0}

-- this value, unless memory ran out
abbrev pub IsReadOrMemory : {A : Type 0} → A → Result A ReadFault → Type 0
IsReadOrMemory a (Ok b) = b ≡ a
IsReadOrMemory a (Err Memory) = Unit {0}
IsReadOrMemory a (Err (Fault f)) = ⊥

-- this fault, unless memory ran out
abbrev pub IsDatabaseFaultOrMemory : {A : Type 0} → DbFault → Result A ReadFault → Type 0
IsDatabaseFaultOrMemory f (Ok a) = ⊥
IsDatabaseFaultOrMemory f (Err Memory) = Unit {0}
IsDatabaseFaultOrMemory f (Err (Fault g)) = g ≡ f

-- the fault of a text, from the kind that was met at a place
abbrev pub database_refusal : TokenFault → Place → ReadFault
database_refusal syntax p = Fault (record { kind = Syntax; place = p })
database_refusal number p = Fault (record { kind = Number; place = p })
database_refusal text_too_long p = Fault (record { kind = TextTooLong; place = p })
database_refusal period p = Fault (record { kind = Period; place = p })
database_refusal Deep p = Memory
database_refusal memory p = Memory
