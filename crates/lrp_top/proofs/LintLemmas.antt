-- A look over a database and a query: what is read first, and what is due of it.
use Rattle.std.proofs.Common.{◌≡◌, ◌≤◌, ℕ, Bool, true, false, List, [], ◌∷◌, Option, Some, None, Result, Ok, Err, refl, sym, ap, subst, ◌∙◌}
use Rattle.lrp_io.proofs.StartsLemmas.{first_and_only, only_first}
use Rattle.lrp_io.specs.Starts.{Start, StartsOne, StartsOnly}
use Rattle.lrp_io.specs.declared.shelf.File.{File}
use Rattle.lrp_lint.specs.Listed.{AreFindings}
use Rattle.lrp_lint.specs.Reports.{report_text}
use Rattle.lrp_lint.specs.declared.report.LintReport.{LintReport}
use Rattle.lrp_model.specs.Formulas.{Question}
use Rattle.lrp_model.specs.RawQueries.{RawQuestion}
use Rattle.lrp_model.specs.Sorting.{IsWellSorted}
use Rattle.lrp_model.specs.Texts.{Identifier}
use Rattle.lrp_model.specs.declared.relations.Relation.{Relation}
use Rattle.lrp_outputs.specs.Outcomes.{Outcome}
use Rattle.lrp_outputs.specs.declared.refusal.Refusal.{Refusal}
use Rattle.lrp_words.specs.Commands.{FilesLinted}
use Rattle.lrp_top.specs.Due.{IsDatabaseRead, IsLinted, IsLintedBy, IsLintedOver, IsNamedRead, IsOutput, IsPlacedReadOf, IsQueryRead, query_named}
use Rattle.lrp_top.specs.Languages.{usual_by, usual_language}
use Rattle.lrp_top.specs.Questions.{IsSaidBy}
use Rattle.lrp_top.specs.Seen.{ShelfSeen, AreBytesOf}
use Rattle.lrp_top.specs.Sources.{Source}
use Rattle.lrp_top.specs.Telling.{TellsFindings}
use Rattle.lrp_top.specs.Written.{IsPlacedAs}
use Rattle.lrp_top.proofs.QuestionLemmas.{asked_since, since}

-- ---- the query

-- a query that is said and well-sorted, with its places
pub placed_as : (tense : Bool) (db : List Relation) (bytes : List ℕ) (raw : RawQuestion) → IsSaidBy tense bytes raw → IsWellSorted db raw → IsPlacedAs tense db bytes raw
placed_as false db bytes raw said sorted = record { query = said; sorted = sorted }
placed_as true db bytes raw said sorted = record { written = said.written; query = said.query; is = said.is; sorted = sorted }

-- the refusal of a query's bytes is that of the look
pub lint_refused : (db : List Relation) (IsRead : Result (Option RawQuestion) Refusal → Type 0) (refusal : Refusal) → IsRead (Err refusal) → IsLintedBy db IsRead (Err refusal)
lint_refused db IsRead refusal is = record { first = Err refusal; is = is; next = refl }

-- and so is that of a query's file
pub lint_unread : (tense : Bool) (db : List Relation) (seen : ShelfSeen) (name : Identifier) (refusal : Refusal) → IsQueryRead (usual_language tense) db seen name (Err refusal) → IsLintedOver tense db seen (Some name) (Err refusal)
lint_unread tense db seen name refusal h = record { first = Err refusal; is = record { bytes = h.bytes; told = h.told; is = h.is }; next = refl }

-- what is due of bytes, whatever is seen, is due of those of a file
pub lint_read : (tense : Bool) (db : List Relation) (seen : ShelfSeen) (name : Identifier) (bytes : List ℕ) (outcome : Outcome) → AreBytesOf seen name bytes → ((s : ShelfSeen) (n : Identifier) → IsLintedBy db (IsPlacedReadOf tense db s n bytes) outcome) → IsLintedOver tense db seen (Some name) outcome
lint_read tense db seen name bytes outcome told each = let t = each seen name in record { first = t.first; is = record { bytes = bytes; told = told; is = t.is }; next = t.next }

-- ---- what is told

-- the text of a report is that of what was found
pub report_told : (db : List Relation) (asked : Option RawQuestion) (report : LintReport) → report.database ≡ db → AreFindings db asked report.findings → TellsFindings db asked (report_text report)
report_told db asked report same are = record { findings = report.findings; are = are; spelled = ap (λ d. report_text (record { database = d; findings = report.findings })) same }

-- ---- files that were read before

-- what is read from a later count on is read from an earlier one on
named_since : (tense : Bool) (db : List Relation) (seen : ShelfSeen) (files : Option (List File)) (before : Identifier → ℕ) (query : Option Identifier) (result : Result (Option RawQuestion) Refusal)
    → IsNamedRead tense db seen query result → files ≡ seen.files → ((name : Identifier) → before name ≤ seen.faults_before name) → IsNamedRead tense db (since files before seen) query result
named_since tense db seen files before None result h e l = h
named_since tense db seen files before (Some name) (Ok None) h e l = absurd h.is
named_since tense db seen files before (Some name) (Ok (Some raw)) h e l = record { bytes = h.bytes; told = λ held f. h.told held (sym e ∙ f); is = h.is }
named_since tense db seen files before (Some name) (Err refusal) h e l =
    let read : IsQueryRead (usual_language tense) db seen name (Err refusal) = record { bytes = h.bytes; told = h.told; is = h.is } in
    let later = asked_since (usual_language tense) db seen files before name (Err refusal) read e (l name) in
    record { bytes = later.bytes; told = later.told; is = later.is }

-- a look over a database that was read before
pub lint_since : (of : FilesLinted) (seen : ShelfSeen) (files : Option (List File)) (before : Identifier → ℕ) (d : Source (List Relation)) (db : List Relation) (query : Option Identifier) (outcome : Outcome) → db ≡ d.says → query ≡ of.query
    → IsDatabaseRead (usual_by of.civil) (since files before seen) of.database (Ok d) → IsLintedOver of.tense db seen query outcome → files ≡ seen.files → ((name : Identifier) → before name ≤ seen.faults_before name) → IsLinted of (since files before seen) outcome
lint_since of seen files before d db query outcome same named read h e l =
    let over : IsLintedOver of.tense d.says seen of.query outcome = subst (λ x. IsLintedOver of.tense x seen of.query outcome) same (subst (λ q. IsLintedOver of.tense db seen q outcome) named h) in
    record { first = Ok d; is = read; next = record { first = over.first; is = named_since of.tense d.says seen files before of.query over.first over.is e l; next = over.next } }

-- and one without a query
pub lint_alone : (of : FilesLinted) (seen : ShelfSeen) (d : Source (List Relation)) (outcome : Outcome) → of.query ≡ None → IsDatabaseRead (usual_by of.civil) seen of.database (Ok d) → IsOutput (TellsFindings d.says None) outcome → IsLinted of seen outcome
lint_alone of seen d outcome none read told = record { first = Ok d; is = read; next = subst (λ q. IsLintedOver of.tense d.says seen q outcome) (sym none) (record { first = Ok None; is = refl; next = told }) }

-- ---- starts

-- the query's file was started after the database's
pub lint_starts : (before middle after : List Start) (database name : Identifier) (query : Option Identifier) → query ≡ Some name → StartsOne before middle database → StartsOne middle after name → StartsOnly before after (database ∷ query_named query)
lint_starts before middle after database name query named one other =
    first_and_only before middle after database (query_named query) one (subst (λ q. StartsOnly middle after (query_named q)) (sym named) (only_first middle after name [] other))
