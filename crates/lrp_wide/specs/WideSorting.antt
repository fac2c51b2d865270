-- The sort faults of a file over a database, and the earliest of them.
use Rattle.std.specs.Prelude.{◌≡◌, ◌||◌, Bool, List, [], ◌∷◌, ◌++◌, map, Some, None, Option}
use Rattle.lrp_model.specs.Texts.{Identifier}
use Rattle.lrp_model.specs.Faults.{earliest, fault_if, is_named_in}
use Rattle.lrp_model.specs.Sorting.{query_fault, query_faults, query_standing}
use Rattle.lrp_sorts.specs.Definitions.{rowless}
use Rattle.lrp_model.specs.RawQueries.{RawForm, RawForms, RawQuestion, RawDefinitionView, RawFileView, raw_atom, raw_compare, raw_member, raw_not, raw_and, raw_or, raw_implies, raw_group, raw_exists, raw_forall, raw_ranged, raw_paired, no_raws, raw}
use Rattle.lrp_model.specs.declared.relations.Relation.{Relation}
use Rattle.lrp_model.specs.declared.faults.QueryFault.{QueryFault}
use Rattle.lrp_model.specs.declared.faults.QueryKind.TheVariants.{Defined}
use Rattle.lrp_tense.specs.Expanding.{expanded_question}
use Rattle.lrp_wide.specs.Inlining.{expanded_file, inlined, own_setting}

-- a definition as a relation without rows, by which atoms of it are checked
abbrev pub defined_relation : RawDefinitionView → Relation
defined_relation d = rowless d.name d.columns

-- a text with operators and its `*` written out alone: each use of a definition stays an atom
abbrev pub starred_plain : List Relation → RawQuestion → RawQuestion
starred_plain db q = record { head = q.head; body = inlined db [] q.body (own_setting (λ p. 1)) }

abbrev pub starred : List Relation → RawQuestion → RawQuestion
starred db q = starred_plain db (expanded_question q)

-- a definition as a query, whose head is its columns
abbrev pub query_of : RawDefinitionView → RawQuestion
query_of d = record { head = d.columns; body = d.body }

-- Defined at each name of a definition that is a relation's or an earlier definition's
abbrev pub name_faults : List Relation → List RawDefinitionView → List QueryFault
name_faults db [] = []
name_faults db (d ∷ ds) = fault_if (is_named_in (map (λ r. r.name) db) d.name) (query_fault Defined d.place) ++ name_faults (db ++ defined_relation d ∷ []) ds

-- the faults of each definition beside the ones before it, and of the query beside them all
abbrev pub faults_beside : List Relation → List RawDefinitionView → RawQuestion → List QueryFault
faults_beside db [] q = query_faults db (starred db q)
faults_beside db (d ∷ ds) q = query_faults db (starred db (query_of d)) ++ faults_beside (db ++ defined_relation d ∷ []) ds q

abbrev pub text_faults : List Relation → RawFileView → List QueryFault
text_faults db f = faults_beside db f.definitions f.query

-- those of a file's own texts
abbrev pub own_faults : List Relation → RawFileView → List QueryFault
own_faults db f = name_faults db f.definitions ++ text_faults db f

-- the faults of the second list where the first has none
abbrev pub faults_or_later : List QueryFault → List QueryFault → List QueryFault
faults_or_later [] others = others
faults_or_later (f ∷ fs) others = f ∷ fs

-- the faults of a file: those of its own texts, and where they have none those of the expanded query, in which formulas may be too wide
abbrev pub file_faults : List Relation → RawFileView → List QueryFault
file_faults db f = faults_or_later (own_faults db f) (query_faults db (expanded_file db f))

abbrev pub IsFileSortFault : List Relation → RawFileView → QueryFault → Type 0
IsFileSortFault db f fault = earliest query_standing (file_faults db f) ≡ Some fault

abbrev pub IsWellSortedFile : List Relation → RawFileView → Type 0
IsWellSortedFile db f = file_faults db f ≡ []

-- the earliest of its own texts
abbrev pub IsOwnFault : List Relation → RawFileView → QueryFault → Type 0
IsOwnFault db f fault = earliest query_standing (own_faults db f) ≡ Some fault
