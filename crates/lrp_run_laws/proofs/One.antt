-- Two runs of one task over the same bytes end alike: the tasks, and the runs.
use Rattle.std.proofs.Common.{◌≡◌, ◌≢◌, inl, inr, ◌≤◌, ◌∙◌, ℕ, Bool, true, false, List, length, refl, sym, ap, subst, Option, Some, None, Result, Ok, Err}
use Rattle.lrp_io.specs.Files.{content_of}
use Rattle.lrp_io.specs.declared.shelf.File.{File}
use Rattle.lrp_words.specs.Commands.{FilesAsked, Task}
use Rattle.lrp_words.specs.Commands.Task.{ask, decide, list, count as count_task, ranges as ranges_task, explain, check, lint, watch, sample}
use Rattle.lrp_model.specs.AnswerTexts.{IsAnswerText}
use Rattle.lrp_model.specs.Formulas.{Question}
use Rattle.lrp_model.specs.Rows.{Tuple}
use Rattle.lrp_model.specs.Plans.{IsWithinLimits}
use Rattle.lrp_model.specs.Texts.{Identifier, Text}
use Rattle.lrp_model.specs.declared.plans.Plan.{Plan}
use Rattle.lrp_model.specs.declared.plans.Planning.{Planning}
use Rattle.lrp_plan_laws.specs.GuardedPlans.{plan_by}
use Rattle.lrp_model.specs.declared.relations.Relation.{Relation}
use Rattle.lrp_kept.specs.KeptForm.{is_kept}
use Rattle.lrp_token.specs.Files.{files_digest}
use Rattle.lrp_model.specs.Printed.{database_bytes}
use Rattle.lrp_model.specs.QueryReading.{IsFile, IsFileFault, IsQuery, IsQueryFault}
use Rattle.lrp_model.specs.RawQueries.{RawFileView, RawQuestion}
use Rattle.lrp_model.specs.Sorting.{IsSortFault}
use Rattle.lrp_model.specs.declared.faults.QueryFault.{QueryFault}
use Rattle.lrp_tense.specs.Expanding.{expanded_question}
use Rattle.lrp_tense.specs.TenseReading.{IsTenseQuery, IsTenseQueryFault}
use Rattle.lrp_top.specs.Canonical.{IsCanonicalText}
use Rattle.lrp_top.specs.Due.{IsDueOf, IsDueFor, IsDatabaseRead, IsQueryRead, IsPlanned, IsPlannedAs, IsCounted, AreRowsCounted, IsOutput, IsAnswered, IsDecided, IsExplained, IsListed, IsNumberTold, IsPlannedFor, IsRanged, IsWatchedFor}
use Rattle.lrp_run_laws.specs.Contents.{Contents, contents_at, contents_of, named_content, SaysRelations, SaysQuestion}
use Rattle.lrp_run_laws.specs.Runs.{IsRunOf, Run, task_asked}
use Rattle.lrp_run_laws.specs.Pairs.{AreOneOutput, AreOneText, EndedAlike, IsDecidedByFiles}
use Rattle.lrp_outputs.specs.Outcomes.{Outcome, line_of, refused_with, status_of, written_of}
use Rattle.lrp_top.specs.Ends.{Ends}
use Rattle.lrp_top.specs.Resuming.{IsResumed}
use Rattle.lrp_top.specs.Sampled.{TellsSample}
use Rattle.lrp_top.specs.Seen.{ShelfSeen, AreBytesOf}
use Rattle.lrp_top.specs.Sources.{Source}
use Rattle.lrp_top.specs.Steps.{After, Then}
use Rattle.lrp_top.specs.Telling.{TellsNumber, TellsPage, TellsPlan, TellsRanges, TellsRelations, TellsWitness}
use Rattle.lrp_model.specs.DatabaseReading.{IsDatabase}
use Rattle.lrp_top.specs.Watched.{AreEditsRead, IsFormFit, IsWatched}
use Rattle.lrp_top.specs.Written.{IsFaultyAs, IsOverIn, IsSortedAs, plain_by, query_plain}
use Rattle.lrp_top.specs.Languages.{civil_by, language_by, usual_by, usual_language}
use Rattle.lrp_top.specs.declared.language.QueryLanguage.{QueryLanguage}
use Rattle.lrp_top.specs.declared.language.QueryLanguage.TheVariants.{FirstOrder, Temporal, Wide}
use Rattle.lrp_wide.specs.WideSorting.{IsFileSortFault}
use Rattle.lrp_wide.specs.Limits.{HasTooMany, IsTooDeep}
use Rattle.lrp_outputs.specs.declared.head.HeadNeed.{HeadNeed}
use Rattle.lrp_outputs.specs.declared.head.HeadNeed.TheVariants as needs
use Rattle.lrp_outputs.specs.declared.head.HeadNeed.TheVariants.{Canon}
use Rattle.lrp_outputs.specs.declared.refusal.Refusal.{Refusal}
use Rattle.lrp_outputs.specs.declared.refusal.Refusal.TheVariants.{Usage, ReadDatabase, LongDatabase, Database, ReadQuery, LongQuery, Query, Formulas, Depth, PeriodLimit, BoundLimit, TokenForm, TokenShape, TokenStale, Cells, Head, CanonRows, Watch, Memory}
use Rattle.lrp_outputs.specs.declared.watch_refusal.WatchRefusal.TheVariants as refusal
use Rattle.lrp_outputs.specs.declared.status.Status.{Status}
use Rattle.lrp_outputs.specs.declared.status.Status.TheVariants as status
use Rattle.lrp_run_laws.proofs.Agree.{Lasting, Agree, then_agree, SameText, Counted, OneDatabaseFault, OneQueryFault, database_agree, query_agree, planned_agree, cells_agree, rows_agree, resumed_agree, output_agree}
use Rattle.lrp_run_laws.proofs.Alike.{OneRank, WholeTuples, OnePage, OneCells, OneCount, OneSize, OneListOfRanges, one_number, one_ranges, one_witness, one_listing, one_sample}
use Rattle.lrp_run_laws.proofs.Canonical.{OneAnswerText, OneRowCount, one_canonical, own_answers}
use Rattle.lrp_run_laws.proofs.Complete.{DatabaseTexts, EditTexts, PlacedTexts, QueryTexts, OneToken}
use Rattle.lrp_run_laws.proofs.Lints.{NamedReads, OneReport, lint_agree}
use Rattle.lrp_run_laws.proofs.Watches.{OneEditsFault, edits_agree, form_fit_agree, watched_agree}

-- what is known of texts, tokens, pages and counts
pub record Known : Type 0 where
  pub databases : DatabaseTexts
  pub database_fault : OneDatabaseFault
  pub queries : (language : QueryLanguage) → QueryTexts language
  pub query_fault : (language : QueryLanguage) → OneQueryFault language
  pub placed : (tense : Bool) → PlacedTexts tense
  pub report : OneReport
  pub edits : EditTexts
  pub edits_fault : OneEditsFault
  pub token : OneToken
  pub page : OnePage
  pub rank : OneRank
  pub tuples : WholeTuples
  pub cells : OneCells
  pub count : OneCount
  pub size : OneSize
  pub ranges : OneListOfRanges
  pub rows : OneRowCount
  pub text : OneAnswerText

-- a query has one sort fault at most
one_unsorted : (db : List Relation) (raw other : RawQuestion) (f g : QueryFault) → raw ≡ other → IsSortFault db raw f → IsSortFault db other g → f ≡ g
one_unsorted db raw other f g same a b = first_is f g (sym a ∙ subst (λ r. IsSortFault db r g) (sym same) b)
  where
    first_is : (f g : QueryFault) → Some f ≡ Some g → f ≡ g
    first_is f g e = cc

-- a query without temporal operators has one fault at most
pub plain_faults : ((bytes : List ℕ) (q other : RawQuestion) → IsQuery bytes q → IsQuery bytes other → q ≡ other)
    → ((bytes : List ℕ) (q : RawQuestion) (fault : QueryFault) → IsQuery bytes q → IsQueryFault bytes fault → ⊥)
    → ((bytes : List ℕ) (fault other : QueryFault) → IsQueryFault bytes fault → IsQueryFault bytes other → fault ≡ other)
    → OneQueryFault FirstOrder
plain_faults one none fault = record { fault = alike; few = λ db bytes f is over. over; shallow = λ db bytes f is over. over; limit = λ db bytes many deep. many }
  where
    alike : (db : List Relation) (bytes : List ℕ) (f g : QueryFault) → IsFaultyAs FirstOrder db bytes f → IsFaultyAs FirstOrder db bytes g → f ≡ g
    alike db bytes f g (inl a) (inl b) = fault bytes f g a b
    alike db bytes f g (inl a) (inr b) = absurd (none bytes b.raw f b.query a)
    alike db bytes f g (inr a) (inl b) = absurd (none bytes a.raw g a.query b)
    alike db bytes f g (inr a) (inr b) = one_unsorted db a.raw b.raw f g (one bytes a.raw b.raw a.query b.query) a.unsorted b.unsorted

-- and so has one with them
pub tense_faults : ((bytes : List ℕ) (q other : RawQuestion) → IsTenseQuery bytes q → IsTenseQuery bytes other → q ≡ other)
    → ((bytes : List ℕ) (q : RawQuestion) (fault : QueryFault) → IsTenseQuery bytes q → IsTenseQueryFault bytes fault → ⊥)
    → ((bytes : List ℕ) (fault other : QueryFault) → IsTenseQueryFault bytes fault → IsTenseQueryFault bytes other → fault ≡ other)
    → OneQueryFault Temporal
tense_faults one none fault = record { fault = alike; few = λ db bytes f is over. over; shallow = λ db bytes f is over. over; limit = λ db bytes many deep. many }
  where
    alike : (db : List Relation) (bytes : List ℕ) (f g : QueryFault) → IsFaultyAs Temporal db bytes f → IsFaultyAs Temporal db bytes g → f ≡ g
    alike db bytes f g (inl a) (inl b) = fault bytes f g a b
    alike db bytes f g (inl a) (inr b) = absurd (none bytes b.written f b.query a)
    alike db bytes f g (inr a) (inl b) = absurd (none bytes a.written g a.query b)
    alike db bytes f g (inr a) (inr b) =
        one_unsorted db (expanded_question a.written) (expanded_question b.written) f g (ap expanded_question (one bytes a.written b.written a.query b.query)) a.unsorted b.unsorted

-- a file has one earliest sort fault
one_earliest : (db : List Relation) (file other : RawFileView) (f g : QueryFault) → file ≡ other → IsFileSortFault db file f → IsFileSortFault db other g → f ≡ g
one_earliest db file other f g same a b = first_is f g (sym a ∙ subst (λ r. IsFileSortFault db r g) (sym same) b)
  where
    first_is : (f g : QueryFault) → Some f ≡ Some g → f ≡ g
    first_is f g e = cc

-- and so has a file of the wide language, which is refused for a limit only where it has none
pub wide_faults : ((bytes : List ℕ) (f other : RawFileView) → IsFile bytes f → IsFile bytes other → f ≡ other)
    → ((bytes : List ℕ) (f : RawFileView) (fault : QueryFault) → IsFile bytes f → IsFileFault bytes fault → ⊥)
    → ((bytes : List ℕ) (fault other : QueryFault) → IsFileFault bytes fault → IsFileFault bytes other → fault ≡ other)
    → (civil : Bool) → OneQueryFault (Wide civil)
wide_faults one none fault civil = record { fault = alike; few = few; shallow = shallow; limit = limit }
  where
    alike : (db : List Relation) (bytes : List ℕ) (f g : QueryFault) → IsFaultyAs (Wide civil) db bytes f → IsFaultyAs (Wide civil) db bytes g → f ≡ g
    alike db bytes f g (inl a) (inl b) = fault (query_plain civil bytes) f g a b
    alike db bytes f g (inl a) (inr b) = absurd (none (query_plain civil bytes) b.file f b.is a)
    alike db bytes f g (inr a) (inl b) = absurd (none (query_plain civil bytes) a.file g a.is b)
    alike db bytes f g (inr a) (inr b) = one_earliest db a.file b.file f g (one (query_plain civil bytes) a.file b.file a.is b.is) a.unsorted b.unsorted

    few : (db : List Relation) (bytes : List ℕ) (f : QueryFault) → IsFaultyAs (Wide civil) db bytes f → IsOverIn HasTooMany (Wide civil) db bytes → ⊥
    few db bytes f (inl a) over = none (query_plain civil bytes) over.file f over.is a
    few db bytes f (inr a) over = a.small.few (subst (HasTooMany db) (one (query_plain civil bytes) over.file a.file over.is a.is) over.over)

    shallow : (db : List Relation) (bytes : List ℕ) (f : QueryFault) → IsFaultyAs (Wide civil) db bytes f → IsOverIn IsTooDeep (Wide civil) db bytes → ⊥
    shallow db bytes f (inl a) over = none (query_plain civil bytes) over.file f over.is a
    shallow db bytes f (inr a) over = a.small.shallow (subst (IsTooDeep db) (one (query_plain civil bytes) over.file a.file over.is a.is) over.over).deep

    limit : (db : List Relation) (bytes : List ℕ) → IsOverIn HasTooMany (Wide civil) db bytes → IsOverIn IsTooDeep (Wide civil) db bytes → ⊥
    limit db bytes many deep = deep.over.few (subst (HasTooMany db) (one (query_plain civil bytes) many.file deep.file many.is deep.is) many.over)

pub each_fault : OneQueryFault FirstOrder → OneQueryFault Temporal → ((civil : Bool) → OneQueryFault (Wide civil)) → (language : QueryLanguage) → OneQueryFault language
each_fault plain operators wide FirstOrder = plain
each_fault plain operators wide Temporal = operators
each_fault plain operators wide (Wide civil) = wide civil

-- the bytes that are read of a file are these
abbrev ReadsOnly : ShelfSeen → Identifier → List ℕ → Type 0
ReadsOnly seen name bytes = (read : List ℕ) → AreBytesOf seen name read → read ≡ bytes

-- ---- a task that asks a query

-- a query that is planned is within the limits
planned_within : (way : Planning) (need : Option HeadNeed) (db : List Relation) (q : Question) (p : Plan) → IsPlannedAs way need db q (Ok p) → IsWithinLimits (plan_by way db q) db q
planned_within way need db q p h = within h.first h.next
  where
    within : (first : Result (Unit {0}) Refusal) → After first (λ fit. IsPlanned way db q) (Ok p) → IsWithinLimits (plan_by way db q) db q
    within (Ok fit) next = next.1
    within (Err refusal) next = cc

module _ (known : Known) (of : FilesAsked) (need : Option HeadNeed) (files : Contents) (seen further : ShelfSeen)
    (first : ReadsOnly seen of.database files.database) (second : ReadsOnly further of.database files.database) (third : ReadsOnly seen of.query files.query) (fourth : ReadsOnly further of.query files.query)
    (S : List ℕ → List ℕ → Type 0) (Next Later : Source (List Relation) → Source Question → Plan → Outcome → Type 0) where
  -- what is due after two plans agrees
  abbrev Finish : Type 0
  Finish = (d : Source (List Relation)) (q : Source Question) → d.bytes ≡ files.database → q.bytes ≡ files.query → SaysRelations (civil_by of) files d.says → SaysQuestion (language_by of) files d.says q.says → IsWithinLimits (plan_by of.way d.says q.says) d.says q.says
      → (p r : Plan) → SameText p r → (o v : Outcome) → Next d q p o → Later d q r v → Lasting o → Lasting v → Agree S o v

  module _ (finish : Finish) where
    abbrev Planned : Source (List Relation) → Source Question → Outcome → Type 0
    Planned d q = Then (IsPlannedAs of.way need d.says q.says) (Next d q)

    abbrev Replanned : Source (List Relation) → Source Question → Outcome → Type 0
    Replanned d q = Then (IsPlannedAs of.way need d.says q.says) (Later d q)

    after_query : (d : Source (List Relation)) (q : Source Question) → d.bytes ≡ files.database → q.bytes ≡ files.query → SaysRelations (civil_by of) files d.says → SaysQuestion (language_by of) files d.says q.says
        → (o v : Outcome) → Planned d q o → Replanned d q v → Lasting o → Lasting v → Agree S o v
    after_query d q db qb says said = then_agree (IsPlannedAs of.way need d.says q.says) (IsPlannedAs of.way need d.says q.says) (Next d q) (Later d q) SameText S
        (planned_agree of.way need d.says q.says)
        (λ p r i j same. finish d q db qb says said (planned_within of.way need d.says q.says p i) p r same)

    queried : (d : Source (List Relation)) (q e : Source Question) → d.bytes ≡ files.database → SaysRelations (civil_by of) files d.says → IsQueryRead (language_by of) d.says seen of.query (Ok q) → q ≡ e
        → (o v : Outcome) → Planned d q o → Replanned d e v → Lasting o → Lasting v → Agree S o v
    queried d q e db says i same o v n m lo lv =
        let is = subst (λ (b : List ℕ). (q.bytes ≡ b) × (length b ≤ 16777216) × IsSortedAs (language_by of) d.says b q.says) (third i.bytes i.told) i.is in
        after_query d q db is.0 says (record { short = is.1; is = is.2 }) o v n (subst (λ x. Replanned d x v) (sym same) m) lo lv

    after_database : (d : Source (List Relation)) → d.bytes ≡ files.database → SaysRelations (civil_by of) files d.says
        → (o v : Outcome) → Then (IsQueryRead (language_by of) d.says seen of.query) (Planned d) o → Then (IsQueryRead (language_by of) d.says further of.query) (Replanned d) v → Lasting o → Lasting v → Agree S o v
    after_database d db says = then_agree (IsQueryRead (language_by of) d.says seen of.query) (IsQueryRead (language_by of) d.says further of.query) (Planned d) (Replanned d) (λ q e. q ≡ e) S
        (query_agree (language_by of) (known.queries (language_by of)) (known.query_fault (language_by of)) d.says files.query seen further of.query third fourth)
        (λ q e i j same. queried d q e db says i same)

    databased : (d e : Source (List Relation)) → IsDatabaseRead (civil_by of) seen of.database (Ok d) → d ≡ e
        → (o v : Outcome) → Then (IsQueryRead (language_by of) d.says seen of.query) (Planned d) o → Then (IsQueryRead (language_by of) e.says further of.query) (Replanned e) v → Lasting o → Lasting v → Agree S o v
    databased d e i same o v n m lo lv =
        let is = subst (λ (b : List ℕ). (d.bytes ≡ b) × (length b ≤ 16777216) × IsDatabase (plain_by (civil_by of) b) d.says) (first i.bytes i.told) i.is in
        after_database d is.0 (record { short = is.1; is = is.2 }) o v n (subst (λ (x : Source (List Relation)). Then (IsQueryRead (language_by of) x.says further of.query) (Replanned x) v) (sym same) m) lo lv

    pub asked_agree : (o v : Outcome) → IsPlannedFor of need seen Next o → IsPlannedFor of need further Later v → Lasting o → Lasting v → Agree S o v
    asked_agree = then_agree (IsDatabaseRead (civil_by of) seen of.database) (IsDatabaseRead (civil_by of) further of.database) (λ d. Then (IsQueryRead (language_by of) d.says seen of.query) (Planned d)) (λ d. Then (IsQueryRead (language_by of) d.says further of.query) (Replanned d)) (λ d e. d ≡ e) S
        (database_agree known.databases known.database_fault (civil_by of) files.database seen further of.database first second)
        (λ d e i j same. databased d e i same)

-- ---- what is due after the plan

-- the cells are counted, and then an output is told
counted_agree : (way : Planning) (db : List Relation) (q : Question) (cap : ℕ) (Tells : List ℕ → Type 0) (S : List ℕ → List ℕ → Type 0) → ((a b : List ℕ) → Tells a → Tells b → S a b)
    → (o v : Outcome) → Then (IsCounted way db q cap) (λ done. IsOutput Tells) o → Then (IsCounted way db q cap) (λ done. IsOutput Tells) v → Lasting o → Lasting v → Agree S o v
counted_agree way db q cap Tells S same = then_agree (IsCounted way db q cap) (IsCounted way db q cap) (λ done. IsOutput Tells) (λ done. IsOutput Tells) Counted S (cells_agree way db q cap)
    (λ a b i j done. output_agree Tells Tells S same)

-- the rows of the canonical answer are counted after that, and then it is told
canonical_agree : (known : Known) (called : Identifier) (way : Planning) (db : List Relation) (q : Question) (cap : ℕ)
    → (o v : Outcome) → Then (IsCounted way db q cap) (λ done. Then (AreRowsCounted db q cap) (λ counted. IsOutput (IsCanonicalText called db q))) o → Then (IsCounted way db q cap) (λ done. Then (AreRowsCounted db q cap) (λ counted. IsOutput (IsCanonicalText called db q))) v → Lasting o → Lasting v → Agree (λ a b. a ≡ b) o v
canonical_agree known called way db q cap =
    let Told : Outcome → Type 0 = IsOutput (IsCanonicalText called db q) in
    then_agree (IsCounted way db q cap) (IsCounted way db q cap) (λ done. Then (AreRowsCounted db q cap) (λ counted. Told)) (λ done. Then (AreRowsCounted db q cap) (λ counted. Told)) Counted (λ a b. a ≡ b) (cells_agree way db q cap)
    (λ a b i j done. then_agree (AreRowsCounted db q cap) (AreRowsCounted db q cap) (λ counted. Told) (λ counted. Told) Counted (λ a b. a ≡ b) (rows_agree known.rows db q cap)
    (λ a b i j done. output_agree (IsCanonicalText called db q) (IsCanonicalText called db q) (λ a b. a ≡ b) (one_canonical known.text called db db q q (own_answers db q))))

-- the page begins before that
listed_agree : (known : Known) (way : Planning) (digest : List ℕ) (db : List Relation) (q : Question) (after : Option Text) (cap : ℕ) (Tells : Option Tuple → List ℕ → Type 0) → ((t : Option Tuple) (a b : List ℕ) → Tells t a → Tells t b → a ≡ b)
    → (o v : Outcome) → Then (IsResumed digest q.head after) (λ t. Then (IsCounted way db q cap) (λ done. IsOutput (Tells t))) o → Then (IsResumed digest q.head after) (λ t. Then (IsCounted way db q cap) (λ done. IsOutput (Tells t))) v → Lasting o → Lasting v → Agree (λ a b. a ≡ b) o v
listed_agree known way digest db q after cap Tells same =
    then_agree (IsResumed digest q.head after) (IsResumed digest q.head after) (λ t. Then (IsCounted way db q cap) (λ done. IsOutput (Tells t))) (λ t. Then (IsCounted way db q cap) (λ done. IsOutput (Tells t))) (λ t u. t ≡ u) (λ a b. a ≡ b)
    (resumed_agree known.token digest q.head after)
    (λ t u i j e o v n m. counted_agree way db q cap (Tells t) (λ a b. a ≡ b) (same t) o v n (subst (λ x. Then (IsCounted way db q cap) (λ done. IsOutput (Tells x)) v) (sym e) m))

-- ---- a watch

module _ (known : Known) (files : Contents) (seen further : ShelfSeen) (database query edits : Identifier) (cap : ℕ) (way : Planning) (auto : Bool)
    (first : ReadsOnly seen database files.database) (second : ReadsOnly further database files.database) (third : ReadsOnly seen query files.query) (fourth : ReadsOnly further query files.query)
    (fifth : ReadsOnly seen edits files.edits) (sixth : ReadsOnly further edits files.edits) where
  abbrev Same : List ℕ → List ℕ → Type 0
  Same a b = a ≡ b

  abbrev AfterForm : ShelfSeen → List Relation → Question → Outcome → Type 0
  AfterForm of db q = Then (AreEditsRead db of edits) (IsWatched (is_kept q) way db q cap)

  abbrev AfterQuery : ShelfSeen → List Relation → Source Question → Outcome → Type 0
  AfterQuery of db q = Then (IsFormFit auto q.says) (λ kept. AfterForm of db q.says)

  form_agree : (db : List Relation) (q : Question) (o v : Outcome) → AfterForm seen db q o → AfterForm further db q v → Lasting o → Lasting v → Agree Same o v
  form_agree db q = then_agree (AreEditsRead db seen edits) (AreEditsRead db further edits) (IsWatched (is_kept q) way db q cap) (IsWatched (is_kept q) way db q cap) (λ d e. d ≡ e) Same
      (edits_agree known.edits known.edits_fault db files.edits seen further edits fifth sixth)
      (λ d e i j same o v n m. watched_agree known.rank known.tuples (is_kept q) way db q d cap o v n (subst (λ es. IsWatched (is_kept q) way db q cap es v) (sym same) m))

  query_done : (db : List Relation) (q : Source Question) (o v : Outcome) → AfterQuery seen db q o → AfterQuery further db q v → Lasting o → Lasting v → Agree Same o v
  query_done db q = then_agree (IsFormFit auto q.says) (IsFormFit auto q.says) (λ kept. AfterForm seen db q.says) (λ kept. AfterForm further db q.says) Counted Same
      (form_fit_agree auto q.says) (λ a b i j done. form_agree db q.says)

  abbrev AfterRead : ShelfSeen → Source (List Relation) → Outcome → Type 0
  AfterRead of d = Then (IsQueryRead FirstOrder d.says of query) (AfterQuery of d.says)

  read_done : (d : Source (List Relation)) (o v : Outcome) → AfterRead seen d o → AfterRead further d v → Lasting o → Lasting v → Agree Same o v
  read_done d = then_agree (IsQueryRead FirstOrder d.says seen query) (IsQueryRead FirstOrder d.says further query) (AfterQuery seen d.says) (AfterQuery further d.says) (λ q e. q ≡ e) Same
      (query_agree FirstOrder (known.queries FirstOrder) (known.query_fault FirstOrder) d.says files.query seen further query third fourth)
      (λ q e i j same o v n m. query_done d.says q o v n (subst (λ x. AfterQuery further d.says x v) (sym same) m))

  pub watch_agree : (o v : Outcome) → IsWatchedFor seen database query edits cap way auto o → IsWatchedFor further database query edits cap way auto v → Lasting o → Lasting v → Agree Same o v
  watch_agree = then_agree (IsDatabaseRead None seen database) (IsDatabaseRead None further database) (AfterRead seen) (AfterRead further) (λ d e. d ≡ e) Same
      (database_agree known.databases known.database_fault None files.database seen further database first second)
      (λ d e i j same o v n m. read_done d o v n (subst (λ (x : Source (List Relation)). AfterRead further x v) (sym same) m))

-- ---- the tasks

-- a shelf that tells its files gives their bytes alone
reads_only : (seen : ShelfSeen) (held : List File) (name : Identifier) (bytes : List ℕ) → seen.files ≡ Some held → bytes ≡ content_of held name → ReadsOnly seen name bytes
reads_only seen held name bytes told e read is = is held told ∙ sym e

-- and those of a named file
named_reads : (seen : ShelfSeen) (held : List File) (query : Option Identifier) (bytes : List ℕ) → seen.files ≡ Some held → bytes ≡ named_content held query → NamedReads seen query bytes
named_reads seen held None bytes told e = tt
named_reads seen held (Some name) bytes told e = reads_only seen held name bytes told e

module _ (known : Known) (seen further : ShelfSeen) (held more : List File) (told : seen.files ≡ Some held) (again : further.files ≡ Some more) where
  abbrev Alike : Task → Type 0
  Alike task = contents_of held task ≡ contents_of more task → (o v : Outcome) → IsDueOf task seen o → IsDueOf task further v → Lasting o → Lasting v → Agree (AreOneOutput task (contents_of held task)) o v

  -- a task that asks a query
  asked_alike : (of : FilesAsked) (need : Option HeadNeed) (S : List ℕ → List ℕ → Type 0) (Next : Source (List Relation) → Source Question → Plan → Outcome → Type 0)
      → contents_at held of ≡ contents_at more of
      → ((d : Source (List Relation)) (q : Source Question) → d.bytes ≡ content_of held of.database → q.bytes ≡ content_of held of.query → SaysRelations (civil_by of) (contents_at held of) d.says → SaysQuestion (language_by of) (contents_at held of) d.says q.says → IsWithinLimits (plan_by of.way d.says q.says) d.says q.says
      → (p r : Plan) → SameText p r → (o v : Outcome) → Next d q p o → Next d q r v → Lasting o → Lasting v → Agree S o v)
      → (o v : Outcome) → IsPlannedFor of need seen Next o → IsPlannedFor of need further Next v → Lasting o → Lasting v → Agree S o v
  asked_alike of need S Next same finish =
      asked_agree known of need (contents_at held of) seen further
      (reads_only seen held of.database (content_of held of.database) told refl) (reads_only further more of.database (content_of held of.database) again (ap (λ (c : Contents). c.database) same))
      (reads_only seen held of.query (content_of held of.query) told refl) (reads_only further more of.query (content_of held of.query) again (ap (λ (c : Contents). c.query) same))
      S Next Next finish

  due_alike : (task : Task) → Alike task
  due_alike (ask of cap true called) same =
      asked_alike of (Some Canon) (λ a b. a ≡ b) (IsAnswered of.way true called cap) same
      (λ d q db qb says said limits p r one. canonical_agree known called of.way d.says q.says cap)
  due_alike (ask of cap false called) same =
      asked_alike of None (AreOneOutput (ask of cap false called) (contents_at held of)) (IsAnswered of.way false called cap) same
      (λ d q db qb says said limits p r one. counted_agree of.way d.says q.says cap (IsAnswerText called d.says q.says) (AreOneOutput (ask of cap false called) (contents_at held of))
      (λ a b x y. record { db = d.says; says = says; holds = record { q = q.says; says = said; holds = record { limits = limits; holds = (x, y) } } }))
  due_alike (decide of cap dates) same =
      asked_alike of None (λ a b. a ≡ b) (IsDecided of.way dates cap) same
      (λ d q db qb says said limits p r one. counted_agree of.way d.says q.says cap (TellsWitness dates d.says q.says) (λ a b. a ≡ b) (one_witness known.rank known.tuples d.says q.says dates))
  due_alike (list of from to limit after json cap) same =
      asked_alike of None (λ a b. a ≡ b) (IsListed of.way of.civil from to limit after json cap) same
      (λ d q db qb says said limits p r one. listed_agree known of.way (files_digest d.bytes q.bytes) d.says q.says after cap (λ t. TellsPage d.says q.says from to t limit of.civil json (files_digest d.bytes q.bytes))
      (λ t a b. one_listing known.page d.says q.says from to t limit of.civil json (files_digest d.bytes q.bytes) a b))
  due_alike (count_task of from to cap) same =
      asked_alike of (Some needs.Count) (λ a b. a ≡ b) (IsNumberTold of.way from to cap) same
      (λ d q db qb says said limits p r one. counted_agree of.way d.says q.says cap (TellsNumber d.says q.says from to) (λ a b. a ≡ b) (one_number known.size d.says q.says from to))
  due_alike (ranges_task of from to limit json cap) same =
      asked_alike of (Some needs.Ranges) (λ a b. a ≡ b) (IsRanged of.way of.civil from to limit json cap) same
      (λ d q db qb says said limits p r one. counted_agree of.way d.says q.says cap (TellsRanges d.says q.says from to limit of.civil json) (λ a b. a ≡ b) (one_ranges known.ranges d.says q.says from to limit of.civil json))
  due_alike (explain of) same =
      asked_alike of None (λ a b. a ≡ b) IsExplained same
      (λ d q db qb says said limits p r one. output_agree (TellsPlan p) (TellsPlan r) (λ a b. a ≡ b) (λ a b x y. x ∙ one ∙ sym y))
  due_alike (check database civil) same =
      then_agree (IsDatabaseRead (usual_by civil) seen database) (IsDatabaseRead (usual_by civil) further database) (λ d. IsOutput (TellsRelations d.says)) (λ d. IsOutput (TellsRelations d.says)) (λ d e. d ≡ e) (λ a b. a ≡ b)
      (database_agree known.databases known.database_fault (usual_by civil) (content_of held database) seen further database
      (reads_only seen held database (content_of held database) told refl) (reads_only further more database (content_of held database) again (ap (λ (c : Contents). c.database) same)))
      (λ d e i j one. output_agree (TellsRelations d.says) (TellsRelations e.says) (λ a b. a ≡ b) (λ a b x y. x.0 ∙ ap (λ (s : Source (List Relation)). database_bytes s.says) one ∙ sym y.0))
  due_alike (lint of) same =
      lint_agree known.databases known.database_fault known.placed (λ tense. known.query_fault (usual_language tense)) known.report of (content_of held of.database) (named_content held of.query) seen further
      (reads_only seen held of.database (content_of held of.database) told refl) (reads_only further more of.database (content_of held of.database) again (ap (λ (c : Contents). c.database) same))
      (named_reads seen held of.query (named_content held of.query) told refl) (named_reads further more of.query (named_content held of.query) again (ap (λ (c : Contents). c.query) same))
  due_alike (watch database query edits cap way auto) same =
      watch_agree known (contents_of held (watch database query edits cap way auto)) seen further database query edits cap way auto
      (reads_only seen held database (content_of held database) told refl) (reads_only further more database (content_of held database) again (ap (λ (c : Contents). c.database) same))
      (reads_only seen held query (content_of held query) told refl) (reads_only further more query (content_of held query) again (ap (λ (c : Contents). c.query) same))
      (reads_only seen held edits (content_of held edits) told refl) (reads_only further more edits (content_of held edits) again (ap (λ (c : Contents). c.edits) same))
  due_alike (sample seed size) same =
      output_agree (TellsSample seed size) (TellsSample seed size) (λ a b. a ≡ b) (one_sample known.databases (known.queries FirstOrder) known.rank known.tuples known.cells known.count seed size)

-- ---- the runs

-- a run with such a status has such an outcome
lasting_of : (o : Outcome) → IsDecidedByFiles (status_of o) → Lasting o
lasting_of (Ok bytes) h = tt
lasting_of (Err Usage) h = tt
lasting_of (Err ReadDatabase) h = h
lasting_of (Err LongDatabase) h = tt
lasting_of (Err (Database fault)) h = tt
lasting_of (Err ReadQuery) h = h
lasting_of (Err LongQuery) h = tt
lasting_of (Err (Query fault)) h = tt
lasting_of (Err Formulas) h = tt
lasting_of (Err Depth) h = tt
lasting_of (Err PeriodLimit) h = tt
lasting_of (Err BoundLimit) h = tt
lasting_of (Err TokenForm) h = tt
lasting_of (Err TokenShape) h = tt
lasting_of (Err TokenStale) h = tt
lasting_of (Err (Cells most step)) h = tt
lasting_of (Err (Head need)) h = tt
lasting_of (Err (CanonRows most)) h = tt
lasting_of (Err (Watch refusal.NotKept)) h = tt
lasting_of (Err (Watch refusal.Read)) h = h
lasting_of (Err (Watch refusal.Long)) h = tt
lasting_of (Err (Watch (refusal.Edits fault))) h = tt
lasting_of (Err (Watch (refusal.PeriodLimit edit))) h = tt
lasting_of (Err (Watch (refusal.BoundLimit edit))) h = tt
lasting_of (Err (Watch (refusal.Cells most edit))) h = tt
lasting_of (Err Memory) h = h

-- it is not `Write`
not_write : (s : Status) → IsDecidedByFiles s → s ≢ status.Write
not_write s h e = subst IsDecidedByFiles e h

-- the line of a refusal is one text
one_line : (task : Task) (files : Contents) (e : Refusal) → AreOneText (refused_with e) task files (line_of e) (line_of e)
one_line task files Usage = refl
one_line task files ReadDatabase = refl
one_line task files LongDatabase = refl
one_line task files (Database fault) = refl
one_line task files ReadQuery = refl
one_line task files LongQuery = refl
one_line task files (Query fault) = refl
one_line task files Formulas = refl
one_line task files Depth = refl
one_line task files PeriodLimit = refl
one_line task files BoundLimit = refl
one_line task files TokenForm = refl
one_line task files TokenShape = refl
one_line task files TokenStale = refl
one_line task files (Cells most step) = refl
one_line task files (Head need) = refl
one_line task files (CanonRows most) = refl
one_line task files (Watch refusal.NotKept) = refl
one_line task files (Watch refusal.Read) = refl
one_line task files (Watch refusal.Long) = refl
one_line task files (Watch (refusal.Edits fault)) = refl
one_line task files (Watch (refusal.PeriodLimit edit)) = refl
one_line task files (Watch (refusal.BoundLimit edit)) = refl
one_line task files (Watch (refusal.Cells most edit)) = refl
one_line task files Memory = refl

-- the texts of outcomes that agree
one_text : (task : Task) (files : Contents) (o v : Outcome) → Agree (AreOneOutput task files) o v → (status_of o ≡ status_of v) × AreOneText (status_of o) task files (written_of o) (written_of v)
one_text task files (Ok a) (Ok b) same = (refl, same)
one_text task files (Ok a) (Err f) same = absurd same
one_text task files (Err e) (Ok b) same = absurd same
one_text task files (Err e) (Err f) same = (ap refused_with same, subst (λ x. AreOneText (refused_with e) task files (line_of e) (line_of x)) same (one_line task files e))

alike : (task : Task) (files : Contents) (run other : Run) (o v : Outcome) → Ends o run.taken run.ended → Ends v other.taken other.ended → IsDecidedByFiles run.ended → IsDecidedByFiles other.ended
    → (Lasting o → Lasting v → Agree (AreOneOutput task files) o v) → EndedAlike task files run other
alike task files run other o v i j h k agree =
    let left : run.ended ≡ status_of o = i.own_status (not_write run.ended h) in
    let right : other.ended ≡ status_of v = j.own_status (not_write other.ended k) in
    let same = one_text task files o v (agree (lasting_of o (subst IsDecidedByFiles left h)) (lasting_of v (subst IsDecidedByFiles right k))) in
    record {
      status = left ∙ same.0 ∙ sym right;
      text = written_of o;
      text_again = written_of v;
      written = i.whole (not_write run.ended h);
      written_again = j.whole (not_write other.ended k);
      same = subst (λ s. AreOneText s task files (written_of o) (written_of v)) (sym left) same.1;
    }

-- what is due for the task that the words spell
due_of : (task : Task) (run : Run) (outcome : Outcome) → task_asked run ≡ Some task → IsDueFor (task_asked run) run.seen outcome → IsDueOf task run.seen outcome
due_of task run outcome spelled due = (subst (λ t. IsDueFor t run.seen outcome) spelled due).0

pub runs_alike : Known → (task : Task) (held more : List File) (run other : Run)
    → IsRunOf task held run → IsRunOf task more other → contents_of held task ≡ contents_of more task → IsDecidedByFiles run.ended → IsDecidedByFiles other.ended
    → EndedAlike task (contents_of held task) run other
runs_alike known task held more run other is again same h k =
    alike task (contents_of held task) run other is.may_happen.outcome again.may_happen.outcome is.may_happen.ends again.may_happen.ends h k
    (due_alike known run.seen other.seen held more is.told again.told task same is.may_happen.outcome again.may_happen.outcome
    (due_of task run is.may_happen.outcome is.spelled is.may_happen.due) (due_of task other again.may_happen.outcome again.spelled again.may_happen.due))
