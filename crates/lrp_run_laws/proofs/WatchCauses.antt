-- Why a run of a watch ended as it did.
use Rattle.std.proofs.Common.{◌≡◌, inl, inr, ◌≤◌, ◌||◌, ℕ, Bool, true, List, None, length, sym, ap, ap₂, subst, ◌∙◌, Result, Ok, Err}
use Rattle.lrp_io.specs.Files.{content_of}
use Rattle.lrp_words.specs.Commands.{Task}
use Rattle.lrp_words.specs.Commands.Task.{watch as watching}
use Rattle.lrp_model.specs.DatabaseReading.{IsDatabase}
use Rattle.lrp_model.specs.Formulas.{Question}
use Rattle.lrp_model.specs.Texts.{Identifier}
use Rattle.lrp_model.specs.declared.relations.Relation.{Relation}
use Rattle.lrp_model.specs.declared.plans.Planning.{Planning}
use Rattle.lrp_edits.specs.declared.edits.Edit.{Edit}
use Rattle.lrp_kept.specs.KeptForm.{is_kept}
use Rattle.lrp_keep.specs.declared.faults.KeepFault.TheVariants as limit
use Rattle.lrp_top.specs.Due.{IsDatabaseReadOf, IsQueryRead, IsQueryReadOf, IsWatchedFor}
use Rattle.lrp_outputs.specs.Outcomes.{Outcome}
use Rattle.lrp_top.specs.Seen.{ShelfSeen, AreBytesOf}
use Rattle.lrp_top.specs.Sources.{Source}
use Rattle.lrp_top.specs.Steps.{After, Then}
use Rattle.lrp_top.specs.Watched.{AreEditsRead, AreEditsReadOf, IsFormFit, IsWatched}
use Rattle.lrp_top.specs.Written.{IsSortedAs, plain_by}
use Rattle.lrp_top.specs.declared.language.QueryLanguage.TheVariants.{FirstOrder}
use Rattle.lrp_outputs.specs.declared.refusal.Refusal.{Refusal}
use Rattle.lrp_outputs.specs.declared.refusal.Refusal.TheVariants.{ReadDatabase, LongDatabase, Database, ReadQuery, LongQuery, Query, Formulas, Depth, Watch, Memory}
use Rattle.lrp_outputs.specs.declared.watch_refusal.WatchRefusal.TheVariants as watch
use Rattle.lrp_run_laws.specs.Contents.{Contents, Keeping, SaysQuestion, SaysRelations, SaysTheseEdits, Watching}
use Rattle.lrp_run_laws.proofs.Cases.{some_bytes}
use Rattle.lrp_run_laws.proofs.Explained.{Explained, OutcomeFor}

abbrev three : List ℕ → List ℕ → List ℕ → Contents
three database query edits = record { database = database; query = query; edits = edits }

-- a database and a query over it in kept form are what files say
record Kept (auto : Bool) (files : Contents) (db : List Relation) (q : Question) : Type 0 where
  database : SaysRelations None files db
  query : SaysQuestion FirstOrder files db q
  fit : (is_kept q || auto) ≡ true

keeping : (auto : Bool) (files : Contents) (db : List Relation) (q : Question) → Kept auto files db q → (Holds : List Relation → Question → Type 0) → Holds db q → Keeping auto files Holds
keeping auto files db q k Holds h = record { db = db; says = k.database; holds = record { q = q; says = k.query; holds = record { fit = k.fit; holds = h } } }

over : (auto : Bool) (files : Contents) (db : List Relation) (q : Question) → Kept auto files db q → (es : List Edit) → SaysTheseEdits files db es → (Holds : List Relation → Question → List Edit → Type 0) → Holds db q es → Watching auto files Holds
over auto files db q k es says Holds h = record { db = db; says = k.database; holds = record { q = q; says = k.query; holds = record { fit = k.fit; holds = record { edits = es; says = says; holds = h } } } }

module _ (database query edits : Identifier) (cap : ℕ) (way : Planning) (auto : Bool) (seen : ShelfSeen) where
  abbrev W : Task
  W = watching database query edits cap way auto

  -- the edits are made
  made_as : (files : Contents) (db : List Relation) (q : Question) → Kept auto files db q → (es : List Edit) → SaysTheseEdits files db es → (outcome : Outcome) → IsWatched (is_kept q) way db q cap es outcome → OutcomeFor W seen files outcome
  made_as files db q k es says (Ok bytes) told = over auto files db q k es says _ told
  made_as files db q k es says (Err (Watch (watch.PeriodLimit edit))) is = λ taken line. over auto files db q k es says _ (record { number = edit; passed = limit.PeriodLimit; some = λ e. cc; is = is })
  made_as files db q k es says (Err (Watch (watch.BoundLimit edit))) is = λ taken line. over auto files db q k es says _ (record { number = edit; passed = limit.BoundLimit; some = λ e. cc; is = is })
  made_as files db q k es says (Err (Watch (watch.Cells most edit))) is = λ taken line. over auto files db q k es says _ (record { number = edit; passed = limit.TooManyCells; some = λ e. cc; is = is.1 })
  made_as files db q k es says (Err Memory) is = λ taken line. line
  made_as files db q k es says (Err _) is = absurd is

  -- their file is read
  edits_as : (files : Contents) (db : List Relation) (q : Question) → Kept auto files db q → (outcome : Outcome) (r : Result (List Edit) Refusal) → AreEditsReadOf db seen edits files.edits r → After r (IsWatched (is_kept q) way db q cap) outcome → OutcomeFor W seen files outcome
  edits_as files db q k outcome (Ok es) is next = made_as files db q k es (record { short = is.0; is = is.1 }) outcome next
  edits_as files db q k outcome (Err (Watch watch.Read)) is next = subst (OutcomeFor W seen files) (sym next) (λ taken line. inr (keeping auto files db q k _ is))
  edits_as files db q k outcome (Err (Watch watch.Long)) is next = subst (OutcomeFor W seen files) (sym next) (λ taken line. inr (keeping auto files db q k _ (inl is.0)))
  edits_as files db q k outcome (Err (Watch (watch.Edits fault))) is next = subst (OutcomeFor W seen files) (sym next) (λ taken line. inr (keeping auto files db q k _ (inr (fault, is.1))))
  edits_as files db q k outcome (Err Memory) is next = subst (OutcomeFor W seen files) (sym next) (λ taken line. line)
  edits_as files db q k outcome (Err _) is next = absurd is

  -- the bytes of all three files
  module _ (d b : List ℕ) (told : AreBytesOf seen database d) (said : AreBytesOf seen query b) where
    explained_by : (outcome : Outcome) (e : List ℕ) → AreBytesOf seen edits e → OutcomeFor W seen (three d b e) outcome → Explained W seen outcome
    explained_by outcome e read is = record {
      files = three d b e;
      told = λ held f. ap₂ (λ x y. three x y e) (told held f) (said held f) ∙ ap (λ z. three (content_of held database) (content_of held query) z) (read held f);
      is = is;
    }

    -- those of edits that nobody read
    unread : (outcome : Outcome) → ((e : List ℕ) → OutcomeFor W seen (three d b e) outcome) → Explained W seen outcome
    unread outcome is = let some = some_bytes seen.files edits in explained_by outcome some.0 some.1 (is some.0)

    module _ (db : List Relation) (short : length d ≤ 16777216) (is_database : IsDatabase (plain_by None d) db) where
      relations : (e : List ℕ) → SaysRelations None (three d b e) db
      relations e = record { short = short; is = is_database }

      -- the query is looked at
      kept_as : (q : Question) → length b ≤ 16777216 → IsSortedAs FirstOrder db b q → (outcome : Outcome) (r : Result (Unit {0}) Refusal) → IsFormFit auto q r → After r (λ kept. Then (AreEditsRead db seen edits) (IsWatched (is_kept q) way db q cap)) outcome → Explained W seen outcome
      kept_as q few sorted outcome (Ok done) kept next =
          let files = three d b next.is.bytes in
          explained_by outcome next.is.bytes next.is.told
          (edits_as files db q (record { database = relations next.is.bytes; query = record { short = few; is = sorted }; fit = kept }) outcome next.first next.is.is next.next)
      kept_as q few sorted outcome (Err (Watch watch.NotKept)) is next =
          subst (Explained W seen) (sym next)
          (unread _ (λ e. λ taken line. record { db = db; says = relations e; holds = inr (record { q = q; says = record { short = few; is = sorted }; holds = is }) }))
      kept_as q few sorted outcome (Err _) is next = absurd is

      -- its file is read
      queried_as : (outcome : Outcome) (r : Result (Source Question) Refusal) → IsQueryReadOf FirstOrder db seen query b r
          → After r (λ q. Then (IsFormFit auto q.says) (λ kept. Then (AreEditsRead db seen edits) (IsWatched (is_kept q.says) way db q.says cap))) outcome → Explained W seen outcome
      queried_as outcome (Ok q) is next = kept_as q.says is.1 is.2 outcome next.first next.is next.next
      queried_as outcome (Err ReadQuery) is next = subst (Explained W seen) (sym next) (unread _ (λ e. λ taken line. inl (inr (record { db = db; says = relations e; holds = is }))))
      queried_as outcome (Err LongQuery) is next = subst (Explained W seen) (sym next) (unread _ (λ e. λ taken line. record { db = db; says = relations e; holds = inl (inl is.0) }))
      queried_as outcome (Err (Query fault)) is next = subst (Explained W seen) (sym next) (unread _ (λ e. λ taken line. record { db = db; says = relations e; holds = inl (inr (fault, is.1)) }))
      queried_as outcome (Err Formulas) is next = absurd is.1
      queried_as outcome (Err Depth) is next = absurd is.1
      queried_as outcome (Err Memory) is next = subst (Explained W seen) (sym next) (unread _ (λ e. λ taken line. line))
      queried_as outcome (Err _) is next = absurd is

  -- the file of the database is read
  abbrev AfterDatabase : Source (List Relation) → Outcome → Type 0
  AfterDatabase d = Then (IsQueryRead FirstOrder d.says seen query) (λ q. Then (IsFormFit auto q.says) (λ kept. Then (AreEditsRead d.says seen edits) (IsWatched (is_kept q.says) way d.says q.says cap)))

  alone : (d : List ℕ) → AreBytesOf seen database d → (outcome : Outcome) → ((b e : List ℕ) → OutcomeFor W seen (three d b e) outcome) → Explained W seen outcome
  alone d told outcome is = let some = some_bytes seen.files query in unread d some.0 told some.1 outcome (is some.0)

  read_as : (d : List ℕ) → AreBytesOf seen database d → (outcome : Outcome) (r : Result (Source (List Relation)) Refusal) → IsDatabaseReadOf None seen database d r → After r AfterDatabase outcome → Explained W seen outcome
  read_as d told outcome (Ok db) is next = queried_as d next.is.bytes told next.is.told db.says is.1 is.2 outcome next.first next.is.is next.next
  read_as d told outcome (Err ReadDatabase) is next = subst (Explained W seen) (sym next) (alone d told _ (λ b e. λ taken line. inl (inl is)))
  read_as d told outcome (Err LongDatabase) is next = subst (Explained W seen) (sym next) (alone d told _ (λ b e. λ taken line. inl (inl is.0)))
  read_as d told outcome (Err (Database fault)) is next = subst (Explained W seen) (sym next) (alone d told _ (λ b e. λ taken line. inl (inr (fault, is.1))))
  read_as d told outcome (Err Memory) is next = subst (Explained W seen) (sym next) (alone d told _ (λ b e. λ taken line. line))
  read_as d told outcome (Err _) is next = absurd is

pub watch_explained : (database query edits : Identifier) (cap : ℕ) (way : Planning) (auto : Bool) (seen : ShelfSeen) (outcome : Outcome) → IsWatchedFor seen database query edits cap way auto outcome → Explained (watching database query edits cap way auto) seen outcome
watch_explained database query edits cap way auto seen outcome due = read_as database query edits cap way auto seen due.is.bytes due.is.told outcome due.first due.is.is due.next
