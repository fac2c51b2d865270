-- What the texts of a database and a query say, by how they are written: with civil values or without, and in which language the query is.
use Rattle.std.specs.Prelude.{◌≡◌, ◌↔◌, ◌⊎◌, ℕ, Bool, true, false, List, [], Option, None, Some}
use Rattle.lrp_model.specs.Checked.{plain_question}
use Rattle.lrp_model.specs.Formulas.{Question}
use Rattle.lrp_model.specs.Rows.{Tuple}
use Rattle.lrp_model.specs.QueryReading.{IsQuery, IsQueryFault}
use Rattle.lrp_model.specs.RawQueries.{RawQuestion}
use Rattle.lrp_model.specs.Satisfaction.{IsAnswer}
use Rattle.lrp_model.specs.Sorting.{IsWellSorted, IsSortFault}
use Rattle.lrp_model.specs.declared.faults.QueryFault.{QueryFault}
use Rattle.lrp_model.specs.declared.relations.Relation.{Relation}
use Rattle.lrp_civil.specs.PlainText.{plain_of, plain_as}
use Rattle.lrp_civil.specs.declared.values.CivilText.{CivilText}
use Rattle.lrp_civil.specs.declared.values.CivilText.TheVariants.{WideQuery}
use Rattle.lrp_top.specs.declared.language.QueryLanguage.{QueryLanguage}
use Rattle.lrp_top.specs.declared.language.QueryLanguage.TheVariants.{FirstOrder, Temporal, Wide}
use Rattle.lrp_model.specs.RawQueries.{RawFileView}
use Rattle.lrp_model.specs.QueryReading.{IsFile, IsFileFault}
use Rattle.lrp_wide.specs.Inlining.{expanded_file}
use Rattle.lrp_wide.specs.Limits.{IsSmallFile}
use Rattle.lrp_wide.specs.Meaning.{IsWideAnswer}
use Rattle.lrp_wide.specs.WideSorting.{IsWellSortedFile, IsFileSortFault, own_faults}
use Rattle.lrp_tense.specs.Expanding.{expanded_question}
use Rattle.lrp_tense.specs.Laws.{IsTenseAnswer}
use Rattle.lrp_tense.specs.TenseReading.{IsTenseQuery, IsTenseQueryFault}

-- ---- databases

-- the text that a database is read from: where times are civil ones, the plain text of its file, in which each place is the same
abbrev pub plain_if : Bool → List ℕ → List ℕ
plain_if false bytes = bytes
plain_if true bytes = plain_of bytes

-- the same where the text has civil values of a kind, if any
abbrev pub plain_by : Option CivilText → List ℕ → List ℕ
plain_by None bytes = bytes
plain_by (Some kind) bytes = plain_as kind bytes

-- the text that a query of the wide language is read from: where times are civil ones, its plain text
abbrev pub query_plain : Bool → List ℕ → List ℕ
query_plain false bytes = bytes
query_plain true bytes = plain_as WideQuery bytes

-- ---- queries

-- the bytes are a query that is well-sorted over the relations, and without its places it is this one
pub record IsSorted (db : List Relation) (bytes : List ℕ) (q : Question) : Type 0 where
  pub raw : RawQuestion
  pub query : IsQuery bytes raw
  pub sorted : IsWellSorted db raw
  pub plain : q ≡ plain_question raw

-- the bytes are a query with temporal operators, whose expansion is well-sorted over the relations, and without its places that is this one; its answers are those of the written query by the operators' own meaning
pub record IsTenseSorted (db : List Relation) (bytes : List ℕ) (q : Question) : Type 0 where
  pub written : RawQuestion
  pub query : IsTenseQuery bytes written
  pub sorted : IsWellSorted db (expanded_question written)
  pub plain : q ≡ plain_question (expanded_question written)
  pub answers : (tuple : Tuple) → IsAnswer db q tuple ↔ IsTenseAnswer db written tuple

-- the bytes are a file of the wide language that is within the limits and well-sorted over the relations, and without its places its query is this one; its answers are those of the file by its own meaning
pub record IsWideSorted (civil : Bool) (db : List Relation) (bytes : List ℕ) (q : Question) : Type 0 where
  pub file : RawFileView
  pub is : IsFile (query_plain civil bytes) file
  pub small : IsSmallFile db file
  pub sorted : IsWellSortedFile db file
  pub plain : q ≡ plain_question (expanded_file db file)
  pub answers : (tuple : Tuple) → IsAnswer db q tuple ↔ IsWideAnswer db file tuple

-- the bytes are a file of the wide language that is within the limits and has no sort fault of its own, and with its places the query that stands for it is this one
pub record IsWideSaid (civil : Bool) (db : List Relation) (bytes : List ℕ) (raw : RawQuestion) : Type 0 where
  pub file : RawFileView
  pub is : IsFile (query_plain civil bytes) file
  pub small : IsSmallFile db file
  pub sorted : own_faults db file ≡ []
  pub written : raw ≡ expanded_file db file

-- by the language of the query
abbrev pub IsSortedAs : QueryLanguage → List Relation → List ℕ → Question → Type 0
IsSortedAs FirstOrder = IsSorted
IsSortedAs Temporal = IsTenseSorted
IsSortedAs (Wide civil) = IsWideSorted civil

-- the bytes are a query that is well-sorted over the relations, and with its places it is this one
pub record IsPlacedQuery (db : List Relation) (bytes : List ℕ) (raw : RawQuestion) : Type 0 where
  pub query : IsQuery bytes raw
  pub sorted : IsWellSorted db raw

-- the bytes are a query with temporal operators, whose expansion is well-sorted over the relations, and with its places that is this one
pub record IsPlacedTenseQuery (db : List Relation) (bytes : List ℕ) (raw : RawQuestion) : Type 0 where
  pub written : RawQuestion
  pub query : IsTenseQuery bytes written
  pub is : raw ≡ expanded_question written
  pub sorted : IsWellSorted db raw

-- the one or the other
abbrev pub IsPlacedAs : Bool → List Relation → List ℕ → RawQuestion → Type 0
IsPlacedAs false = IsPlacedQuery
IsPlacedAs true = IsPlacedTenseQuery

-- the bytes are a query that has this sort fault over the relations
pub record IsUnsortedBy (db : List Relation) (bytes : List ℕ) (fault : QueryFault) : Type 0 where
  pub raw : RawQuestion
  pub query : IsQuery bytes raw
  pub unsorted : IsSortFault db raw fault

-- the bytes are a query with temporal operators whose expansion has this sort fault over the relations
pub record IsTenseUnsortedBy (db : List Relation) (bytes : List ℕ) (fault : QueryFault) : Type 0 where
  pub written : RawQuestion
  pub query : IsTenseQuery bytes written
  pub unsorted : IsSortFault db (expanded_question written) fault

-- the bytes are a file of the wide language within the limits that has this sort fault over the relations
pub record IsWideUnsortedBy (civil : Bool) (db : List Relation) (bytes : List ℕ) (fault : QueryFault) : Type 0 where
  pub file : RawFileView
  pub is : IsFile (query_plain civil bytes) file
  pub small : IsSmallFile db file
  pub unsorted : IsFileSortFault db file fault

-- the bytes are a file of the wide language whose expanded query has too many formulas, or else one that is too deep
pub record IsTooLarge (civil : Bool) (db : List Relation) (bytes : List ℕ) (Over : List Relation → RawFileView → Type 0) : Type 0 where
  pub file : RawFileView
  pub is : IsFile (query_plain civil bytes) file
  pub over : Over db file

abbrev pub IsOverIn : (List Relation → RawFileView → Type 0) → QueryLanguage → List Relation → List ℕ → Type 0
IsOverIn Over FirstOrder db bytes = ⊥
IsOverIn Over Temporal db bytes = ⊥
IsOverIn Over (Wide civil) db bytes = IsTooLarge civil db bytes Over

-- the text has this one fault, or it is a query with this one sort fault
abbrev pub IsFaultyAs : QueryLanguage → List Relation → List ℕ → QueryFault → Type 0
IsFaultyAs FirstOrder db bytes fault = IsQueryFault bytes fault ⊎ IsUnsortedBy db bytes fault
IsFaultyAs Temporal db bytes fault = IsTenseQueryFault bytes fault ⊎ IsTenseUnsortedBy db bytes fault
IsFaultyAs (Wide civil) db bytes fault = IsFileFault (query_plain civil bytes) fault ⊎ IsWideUnsortedBy civil db bytes fault
