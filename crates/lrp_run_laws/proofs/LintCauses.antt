-- Why a run that looks a database over ended as it did.
use Rattle.std.proofs.Common.{◌≡◌, inl, inr, ◌≤◌, ℕ, Bool, true, false, List, [], length, sym, ap, ap₂, subst, Option, Some, None, Result, Ok, Err}
use Rattle.lrp_words.specs.Commands.{FilesLinted, Task}
use Rattle.lrp_words.specs.Commands.Task.{lint as linting}
use Rattle.lrp_model.specs.DatabaseReading.{IsDatabase}
use Rattle.lrp_model.specs.RawQueries.{RawFileView, RawQuestion}
use Rattle.lrp_model.specs.Texts.{Identifier}
use Rattle.lrp_model.specs.declared.relations.Relation.{Relation}
use Rattle.lrp_top.specs.Due.{IsDatabaseReadOf, IsLinted, IsLintedOver, IsOutput, IsPlacedReadOf}
use Rattle.lrp_outputs.specs.Outcomes.{Outcome}
use Rattle.lrp_top.specs.Seen.{ShelfSeen, AreBytesOf}
use Rattle.lrp_top.specs.Sources.{Source}
use Rattle.lrp_top.specs.Steps.{After}
use Rattle.lrp_top.specs.Telling.{TellsFindings}
use Rattle.lrp_top.specs.Written.{IsOverIn, plain_by}
use Rattle.lrp_top.specs.Languages.{usual_by, usual_language}
use Rattle.lrp_outputs.specs.declared.refusal.Refusal.{Refusal}
use Rattle.lrp_outputs.specs.declared.refusal.Refusal.TheVariants.{ReadDatabase, LongDatabase, Database, ReadQuery, LongQuery, Query, Formulas, Depth, Memory}
use Rattle.lrp_run_laws.specs.Contents.{Contents, OverNamed, SaysRelations, two_files}
use Rattle.lrp_run_laws.proofs.Cases.{some_bytes}
use Rattle.lrp_run_laws.proofs.Explained.{Explained, OutcomeFor}

-- a query in one of the usual languages is never too large
never_over : (tense : Bool) (Over : List Relation → RawFileView → Type 0) (db : List Relation) (bytes : List ℕ) → IsOverIn Over (usual_language tense) db bytes → ⊥
never_over false Over db bytes h = h
never_over true Over db bytes h = h

module _ (database : Identifier) (tense civil : Bool) (seen : ShelfSeen) where
  abbrev Files : Option Identifier → FilesLinted
  Files query = record { database = database; query = query; tense = tense; civil = civil }

  abbrev L : Option Identifier → Task
  L query = linting (Files query)

  -- what is due after the query
  abbrev AfterQuery : List Relation → Option RawQuestion → Outcome → Type 0
  AfterQuery db asked = IsOutput (TellsFindings db asked)

  -- what is found is told
  told_as : (query : Option Identifier) (files : Contents) (db : List Relation) → SaysRelations (usual_by civil) files db → (asked : Option RawQuestion)
      → ((Holds : List Relation → Option RawQuestion → Type 0) → Holds db asked → OverNamed query tense files Holds db) → (outcome : Outcome) → AfterQuery db asked outcome → OutcomeFor (L query) seen files outcome
  told_as query files db says asked over (Ok bytes) told = record { db = db; says = says; holds = over (λ d a. TellsFindings d a bytes) told }
  told_as query files db says asked over (Err Memory) told = λ taken line. line
  told_as query files db says asked over (Err _) told = absurd told

  -- the query is read
  placed_as : (name : Identifier) (files : Contents) (db : List Relation) → SaysRelations (usual_by civil) files db → (outcome : Outcome) (r : Result (Option RawQuestion) Refusal) → IsPlacedReadOf tense db seen name files.query r → After r (AfterQuery db) outcome → OutcomeFor (L (Some name)) seen files outcome
  placed_as name files db says outcome (Ok None) is next = absurd is
  placed_as name files db says outcome (Ok (Some raw)) is next = told_as (Some name) files db says (Some raw) (λ Holds h. record { raw = raw; says = record { short = is.0; is = is.1 }; holds = h }) outcome next
  placed_as name files db says outcome (Err ReadQuery) is next = subst (OutcomeFor (L (Some name)) seen files) (sym next) (λ taken line. inr (record { db = db; says = says; holds = is }))
  placed_as name files db says outcome (Err LongQuery) is next = subst (OutcomeFor (L (Some name)) seen files) (sym next) (λ taken line. record { db = db; says = says; holds = inl is.0 })
  placed_as name files db says outcome (Err (Query fault)) is next = subst (OutcomeFor (L (Some name)) seen files) (sym next) (λ taken line. record { db = db; says = says; holds = inr (fault, is.1) })
  placed_as name files db says outcome (Err Formulas) is next = absurd (never_over tense _ db files.query is.1)
  placed_as name files db says outcome (Err Depth) is next = absurd (never_over tense _ db files.query is.1)
  placed_as name files db says outcome (Err Memory) is next = subst (OutcomeFor (L (Some name)) seen files) (sym next) (λ taken line. line)
  placed_as name files db says outcome (Err _) is next = absurd is

  -- over the bytes of the database
  module _ (d : List ℕ) (told : AreBytesOf seen database d) where
    explained_alone : (outcome : Outcome) → OutcomeFor (L None) seen (two_files d []) outcome → Explained (L None) seen outcome
    explained_alone outcome is = record { files = two_files d []; told = λ held f. ap (λ x. two_files x []) (told held f); is = is }

    explained_with : (name : Identifier) (b : List ℕ) → AreBytesOf seen name b → (outcome : Outcome) → OutcomeFor (L (Some name)) seen (two_files d b) outcome → Explained (L (Some name)) seen outcome
    explained_with name b read outcome is = record { files = two_files d b; told = λ held f. ap₂ two_files (told held f) (read held f); is = is }

    -- those of a query that nobody read
    unread : (query : Option Identifier) (outcome : Outcome) → ((b : List ℕ) → OutcomeFor (L query) seen (two_files d b) outcome) → Explained (L query) seen outcome
    unread None outcome is = explained_alone outcome (is [])
    unread (Some name) outcome is = let some = some_bytes seen.files name in explained_with name some.0 some.1 outcome (is some.0)

    -- what is due after the database
    over_as : (query : Option Identifier) (db : List Relation) → length d ≤ 16777216 → IsDatabase (plain_by (usual_by civil) d) db → (outcome : Outcome) → IsLintedOver tense db seen query outcome → Explained (L query) seen outcome
    over_as None db short is outcome next =
        explained_alone outcome (told_as None (two_files d []) db (record { short = short; is = is }) None (λ Holds h. h) outcome (subst (λ (r : Result (Option RawQuestion) Refusal). After r (AfterQuery db) outcome) next.is next.next))
    over_as (Some name) db short is outcome next =
        explained_with name next.is.bytes next.is.told outcome (placed_as name (two_files d next.is.bytes) db (record { short = short; is = is }) outcome next.first next.is.is next.next)

    read_as : (query : Option Identifier) (outcome : Outcome) (r : Result (Source (List Relation)) Refusal) → IsDatabaseReadOf (usual_by civil) seen database d r → After r (λ s. IsLintedOver tense s.says seen query) outcome → Explained (L query) seen outcome
    read_as query outcome (Ok db) is next = over_as query db.says is.1 is.2 outcome next
    read_as query outcome (Err ReadDatabase) is next = subst (Explained (L query) seen) (sym next) (unread query _ (λ b. λ taken line. inl is))
    read_as query outcome (Err LongDatabase) is next = subst (Explained (L query) seen) (sym next) (unread query _ (λ b. λ taken line. inl is.0))
    read_as query outcome (Err (Database fault)) is next = subst (Explained (L query) seen) (sym next) (unread query _ (λ b. λ taken line. inr (fault, is.1)))
    read_as query outcome (Err Memory) is next = subst (Explained (L query) seen) (sym next) (unread query _ (λ b. λ taken line. line))
    read_as query outcome (Err _) is next = absurd is

pub lint_explained : (of : FilesLinted) (seen : ShelfSeen) (outcome : Outcome) → IsLinted of seen outcome → Explained (linting of) seen outcome
lint_explained of seen outcome due = read_as of.database of.tense of.civil seen due.is.bytes due.is.told of.query outcome due.first due.is.is due.next
