-- What the files of a task say.
use Rattle.std.specs.Prelude.{◌≡◌, ℕ, ◌≤◌, Bool, true, ◌||◌, List, [], length, Option, Some, None}
use Rattle.lrp_io.specs.Files.{content_of}
use Rattle.lrp_io.specs.declared.shelf.File.{File}
use Rattle.lrp_words.specs.Commands.{FilesAsked, FilesLinted, Task}
use Rattle.lrp_words.specs.Commands.Task.{ask, decide, list, count, ranges, explain, check, lint, watch, sample}
use Rattle.lrp_model.specs.DatabaseReading.{IsDatabase}
use Rattle.lrp_model.specs.Formulas.{Question}
use Rattle.lrp_model.specs.Plans.{IsWithinLimits}
use Rattle.lrp_model.specs.RawQueries.{RawQuestion}
use Rattle.lrp_model.specs.Texts.{Identifier}
use Rattle.lrp_model.specs.declared.plans.Planning.{Planning}
use Rattle.lrp_model.specs.declared.relations.Relation.{Relation}
use Rattle.lrp_plan_laws.specs.GuardedPlans.{plan_by}
use Rattle.lrp_edits.specs.EditReading.{SaysEdits}
use Rattle.lrp_edits.specs.declared.edits.Edit.{Edit}
use Rattle.lrp_kept.specs.KeptForm.{is_kept}
use Rattle.lrp_token.specs.Files.{files_digest}
use Rattle.lrp_top.specs.Seen.{ShelfSeen}
use Rattle.lrp_top.specs.Written.{IsPlacedAs, IsSortedAs, plain_by}
use Rattle.lrp_top.specs.Languages.{civil_by, language_by, usual_by}
use Rattle.lrp_top.specs.declared.language.QueryLanguage.{QueryLanguage}
use Rattle.lrp_top.specs.declared.language.QueryLanguage.TheVariants.{FirstOrder}
use Rattle.lrp_civil.specs.declared.values.CivilText.{CivilText}
use Rattle.lrp_model.specs.Limits.{most_bytes}

-- the bytes of its files
pub record Contents : Type 0 where
  pub database : List ℕ
  pub query : List ℕ
  pub edits : List ℕ

-- those of a database and a query alone
abbrev pub two_files : List ℕ → List ℕ → Contents
two_files database query = record { database = database; query = query; edits = [] }

abbrev pub contents_at : List File → FilesAsked → Contents
contents_at held of = two_files (content_of held of.database) (content_of held of.query)

-- those of a query's file, where one is named
abbrev pub named_content : List File → Option Identifier → List ℕ
named_content held None = []
named_content held (Some name) = content_of held name

-- those that files hold; a task that reads no query or no edits has no bytes of them
abbrev pub contents_of : List File → Task → Contents
contents_of held (ask of cap canon called) = contents_at held of
contents_of held (decide of cap dates) = contents_at held of
contents_of held (list of from to limit after json cap) = contents_at held of
contents_of held (count of from to cap) = contents_at held of
contents_of held (ranges of from to limit json cap) = contents_at held of
contents_of held (explain of) = contents_at held of
contents_of held (check database civil) = two_files (content_of held database) []
contents_of held (lint of) = two_files (content_of held of.database) (named_content held of.query)
contents_of held (watch database query edits cap way auto) = record { database = content_of held database; query = content_of held query; edits = content_of held edits }
contents_of held (sample seed size) = two_files [] []

-- where the shelf tells its files, they are those that these hold
abbrev pub AreContentsFor : ShelfSeen → Task → Contents → Type 0
AreContentsFor seen task files = (held : List File) → seen.files ≡ Some held → files ≡ contents_of held task

-- their digest, which the tokens of pages have
abbrev pub digest_of : Contents → List ℕ
digest_of files = files_digest files.database files.query

-- the database's bytes are at most 16,777,216 and the text of these relations
pub record SaysRelations (civil : Option CivilText) (files : Contents) (db : List Relation) : Type 0 where
  pub short : length files.database ≤ most_bytes
  pub is : IsDatabase (plain_by civil files.database) db

-- the query's bytes are at most 16,777,216 and the text of this query, which is well-sorted over the relations
pub record SaysQuestion (language : QueryLanguage) (files : Contents) (db : List Relation) (q : Question) : Type 0 where
  pub short : length files.query ≤ most_bytes
  pub is : IsSortedAs language db files.query q

-- there is a database, and of its relations this holds
pub record OverDatabase (civil : Option CivilText) (files : Contents) (Holds : List Relation → Type 0) : Type 0 where
  pub db : List Relation
  pub says : SaysRelations civil files db
  pub holds : Holds db

-- there is a query over the relations, and of it this holds
pub record OverQuery (language : QueryLanguage) (files : Contents) (Holds : List Relation → Question → Type 0) (db : List Relation) : Type 0 where
  pub q : Question
  pub says : SaysQuestion language files db q
  pub holds : Holds db q

-- the query is within the limits where it is planned by this way, and of it this holds
pub record WhereWithinLimits (way : Planning) (Holds : List Relation → Question → Type 0) (db : List Relation) (q : Question) : Type 0 where
  pub limits : IsWithinLimits (plan_by way db q) db q
  pub holds : Holds db q

-- there are a database and a query over it within the limits where it is planned by this way, and of them this holds
abbrev pub Asking : FilesAsked → Contents → (List Relation → Question → Type 0) → Type 0
Asking of files Holds = OverDatabase (civil_by of) files (OverQuery (language_by of) files (WhereWithinLimits of.way Holds))

-- the query's bytes are at most 16,777,216 and the text of a query that is well-sorted over the relations, and that with its places is this one
pub record SaysPlaced (tense : Bool) (files : Contents) (db : List Relation) (raw : RawQuestion) : Type 0 where
  pub short : length files.query ≤ most_bytes
  pub is : IsPlacedAs tense db files.query raw

-- there is a query with its places over the relations, and of it this holds
pub record OverPlaced (tense : Bool) (files : Contents) (Holds : List Relation → Option RawQuestion → Type 0) (db : List Relation) : Type 0 where
  pub raw : RawQuestion
  pub says : SaysPlaced tense files db raw
  pub holds : Holds db (Some raw)

-- the same where a query is named, and else this holds without one
abbrev pub OverNamed : Option Identifier → Bool → Contents → (List Relation → Option RawQuestion → Type 0) → List Relation → Type 0
OverNamed None tense files Holds db = Holds db None
OverNamed (Some name) tense files Holds db = OverPlaced tense files Holds db

-- there are a database and, where one is named, a query over it, and of them this holds
abbrev pub Linting : FilesLinted → Contents → (List Relation → Option RawQuestion → Type 0) → Type 0
Linting of files Holds = OverDatabase (usual_by of.civil) files (OverNamed of.query of.tense files Holds)

-- the edits' bytes are at most 16,777,216 and the text of these edits of the relations
pub record SaysTheseEdits (files : Contents) (db : List Relation) (edits : List Edit) : Type 0 where
  pub short : length files.edits ≤ most_bytes
  pub is : SaysEdits files.edits db edits

-- the query is in kept form or may have another, and of it this holds
pub record WhereFit (auto : Bool) (Holds : List Relation → Question → Type 0) (db : List Relation) (q : Question) : Type 0 where
  pub fit : (is_kept q || auto) ≡ true
  pub holds : Holds db q

-- there are edits of the relations, and of them this holds
pub record OverEdits (files : Contents) (Holds : List Relation → Question → List Edit → Type 0) (db : List Relation) (q : Question) : Type 0 where
  pub edits : List Edit
  pub says : SaysTheseEdits files db edits
  pub holds : Holds db q edits

-- there are a database and a query over it in kept form, or in any where the flag is set, and of them this holds
abbrev pub Keeping : Bool → Contents → (List Relation → Question → Type 0) → Type 0
Keeping auto files Holds = OverDatabase None files (OverQuery FirstOrder files (WhereFit auto Holds))

-- and edits of the database
abbrev pub Watching : Bool → Contents → (List Relation → Question → List Edit → Type 0) → Type 0
Watching auto files Holds = Keeping auto files (OverEdits files Holds)
