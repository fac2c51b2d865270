-- How a run can come to what is due for its task: each case with all that is known there.
use Rattle.std.proofs.Common.{◌≡◌, ◌⊎◌, inl, inr, ◌<◌, ◌≤◌, ◌^◌, ℕ, ℤ, Bool, true, false, List, [], length, refl, sym, ap, subst, Option, Some, None, Result, Ok, Err}
use Rattle.lrp_io.specs.Files.{content_of}
use Rattle.lrp_io.specs.declared.shelf.File.{File}
use Rattle.lrp_model.specs.AnswerTexts.{IsAnswerText}
use Rattle.lrp_model.specs.Caps.{IsFirstMany}
use Rattle.lrp_model.specs.DatabaseReading.{IsDatabaseFault}
use Rattle.lrp_model.specs.Formulas.{Question}
use Rattle.lrp_model.specs.Rows.{Tuple}
use Rattle.lrp_model.specs.Periods.{period}
use Rattle.lrp_model.specs.Plans.{IsPlan, scaled_reach, IsWithinLimits}
use Rattle.lrp_model.specs.Texts.{Identifier, Text}
use Rattle.lrp_model.specs.declared.faults.DbFault.{DbFault}
use Rattle.lrp_model.specs.declared.faults.QueryFault.{QueryFault}
use Rattle.lrp_model.specs.declared.plans.Plan.{Plan}
use Rattle.lrp_model.specs.declared.plans.Planning.{Planning}
use Rattle.lrp_plan_laws.specs.GuardedPlans.{plan_by}
use Rattle.lrp_model.specs.declared.relations.Relation.{Relation}
use Rattle.lrp_token.specs.Reading.{IsNoToken, HasOtherCounts}
use Rattle.lrp_words.specs.Commands.{FilesAsked}
use Rattle.lrp_top.specs.Due.{IsDatabaseReadOf, IsQueryRead, IsQueryReadOf, IsPlanned, IsPlannedAs, IsCounted, AreRowsCounted, IsOutput, IsExplained, IsAnswered, IsDecided, IsListed, IsNumberTold, IsPlannedFor, IsRanged}
use Rattle.lrp_top.specs.Heads.{IsHeadFit, IsMetBy}
use Rattle.lrp_run_laws.specs.Contents.{Contents, digest_of, SaysRelations, SaysQuestion, two_files}
use Rattle.lrp_run_laws.specs.Tasks.{HasFewCells}
use Rattle.lrp_top.specs.Canonical.{HasCanonicalRows, IsCanonicalText}
use Rattle.lrp_outputs.specs.Outcomes.{Outcome}
use Rattle.lrp_top.specs.Resuming.{IsResumed, IsStale, shape_of}
use Rattle.lrp_top.specs.Seen.{ShelfSeen, AreBytesOf, HasFailed}
use Rattle.lrp_top.specs.Sources.{Source}
use Rattle.lrp_top.specs.Steps.{Then, After}
use Rattle.lrp_top.specs.Telling.{TellsNumber, TellsPage, TellsPlan, TellsRanges, TellsWitness}
use Rattle.lrp_top.specs.Written.{IsFaultyAs, IsOverIn, plain_by}
use Rattle.lrp_top.specs.Languages.{civil_by, language_by}
use Rattle.lrp_wide.specs.Limits.{HasTooMany, IsTooDeep}
use Rattle.lrp_outputs.specs.declared.head.HeadNeed.{HeadNeed}
use Rattle.lrp_outputs.specs.declared.head.HeadNeed.TheVariants.{Canon}
use Rattle.lrp_outputs.specs.declared.refusal.Refusal.{Refusal}
use Rattle.lrp_outputs.specs.declared.refusal.Refusal.TheVariants.{ReadDatabase, LongDatabase, Database, ReadQuery, LongQuery, Query, Formulas, Depth, PeriodLimit, BoundLimit, TokenForm, TokenShape, TokenStale, Cells, Head, CanonRows, Memory}

-- what a task asks of two files: the files, what the head needs, the token of a page and the cap, where it has them
pub record Asked : Type 0 where
  pub of : FilesAsked
  pub need : Option HeadNeed
  pub after : Option Text
  pub cap : Option ℕ

-- no step of the plan by this way has more cells than the cap, where there is one
abbrev pub IsFew : Planning → Option ℕ → List Relation → Question → Type 0
IsFew way None db q = Unit {0}
IsFew way (Some cap) db q = HasFewCells way cap db q

-- what is told of a query: by the files' digest, its plan and the tuple of the token
abbrev pub Telling : Type 1
Telling = List ℕ → Plan → Option Tuple → List Relation → Question → List ℕ → Type 0

-- ---- after the plan

pub data Onward (digest : List ℕ) (a : Asked) (db : List Relation) (q : Question) (Tells : Option Tuple → List ℕ → Type 0) : Outcome → Type 0 where
  output : (tuple : Option Tuple) → IsResumed digest q.head a.after (Ok tuple) → IsFew a.of.way a.cap db q → (bytes : List ℕ) → Tells tuple bytes → Onward digest a db q Tells (Ok bytes)
  form : (text : Text) → a.after ≡ Some text → IsNoToken text → Onward digest a db q Tells (Err TokenForm)
  other : (text : Text) → a.after ≡ Some text → HasOtherCounts text (shape_of q.head) → Onward digest a db q Tells (Err TokenShape)
  stale : (text : Text) → a.after ≡ Some text → IsStale digest q.head text → Onward digest a db q Tells (Err TokenStale)
  many : (cap step : ℕ) → a.cap ≡ Some cap → (tuple : Option Tuple) → IsResumed digest q.head a.after (Ok tuple) → IsFirstMany (plan_by a.of.way db q) db q cap step → Onward digest a db q Tells (Err (Cells cap step))
  rows : (cap n : ℕ) → a.need ≡ Some Canon → a.cap ≡ Some cap → HasCanonicalRows db q n → cap < n → Onward digest a db q Tells (Err (CanonRows cap))
  want : Onward digest a db q Tells (Err Memory)

-- ---- the whole of it

pub data Case (seen : ShelfSeen) (a : Asked) (files : Contents) (Tells : Telling) : Outcome → Type 0 where
  unread_database : HasFailed seen a.of.database → Case seen a files Tells (Err ReadDatabase)
  long_database : 16777216 < length files.database → Case seen a files Tells (Err LongDatabase)
  no_database : (fault : DbFault) → length files.database ≤ 16777216 → IsDatabaseFault (plain_by (civil_by a.of) files.database) fault → Case seen a files Tells (Err (Database fault))
  unread_query : (db : List Relation) → SaysRelations (civil_by a.of) files db → HasFailed seen a.of.query → Case seen a files Tells (Err ReadQuery)
  long_query : (db : List Relation) → SaysRelations (civil_by a.of) files db → 16777216 < length files.query → Case seen a files Tells (Err LongQuery)
  no_query : (db : List Relation) → SaysRelations (civil_by a.of) files db → (fault : QueryFault) → length files.query ≤ 16777216 → IsFaultyAs (language_by a.of) db files.query fault → Case seen a files Tells (Err (Query fault))
  too_many : (db : List Relation) → SaysRelations (civil_by a.of) files db → length files.query ≤ 16777216 → IsOverIn HasTooMany (language_by a.of) db files.query → Case seen a files Tells (Err Formulas)
  too_deep : (db : List Relation) → SaysRelations (civil_by a.of) files db → length files.query ≤ 16777216 → IsOverIn IsTooDeep (language_by a.of) db files.query → Case seen a files Tells (Err Depth)
  no_head : (db : List Relation) → SaysRelations (civil_by a.of) files db → (q : Question) → SaysQuestion (language_by a.of) files db q → (unmet : HeadNeed) → a.need ≡ Some unmet → (IsMetBy unmet q.head → ⊥) → Case seen a files Tells (Err (Head unmet))
  above_period : (db : List Relation) → SaysRelations (civil_by a.of) files db → (q : Question) → SaysQuestion (language_by a.of) files db q → 2 ^ 62 < period db q.body → Case seen a files Tells (Err PeriodLimit)
  above_bound : (db : List Relation) → SaysRelations (civil_by a.of) files db → (q : Question) → SaysQuestion (language_by a.of) files db q → period db q.body ≤ 2 ^ 62 → 2 ^ 62 < scaled_reach (plan_by a.of.way db q) q → Case seen a files Tells (Err BoundLimit)
  planned : (db : List Relation) → SaysRelations (civil_by a.of) files db → (q : Question) → SaysQuestion (language_by a.of) files db q → IsWithinLimits (plan_by a.of.way db q) db q → (p : Plan) → IsPlan p (plan_by a.of.way db q) db q → (outcome : Outcome) → Onward (digest_of files) a db q (λ tuple. Tells (digest_of files) p tuple db q) outcome → Case seen a files Tells outcome
  wanted : Case seen a files Tells (Err Memory)

-- ---- the bytes of files

-- some bytes are those of a file of this name
pub some_bytes : (files : Option (List File)) (name : Identifier) → (bytes : List ℕ) × ((held : List File) → files ≡ Some held → bytes ≡ content_of held name)
some_bytes None name = ([], λ held e. absurd (none_some held e))
  where
    none_some : (held : List File) → ◌≡◌ {A = Option (List File)} None (Some held) → ⊥
    none_some held e = cc
some_bytes (Some files) name = (content_of files name, λ held e. ap (λ h. content_of h name) (same files held e))
  where
    same : (h k : List File) → Some h ≡ Some k → h ≡ k
    same h k e = cc

-- ---- each step

-- the output is written, or memory is wanted
written_as : (digest : List ℕ) (a : Asked) (db : List Relation) (q : Question) (Tells : Option Tuple → List ℕ → Type 0) (tuple : Option Tuple) → IsResumed digest q.head a.after (Ok tuple) → IsFew a.of.way a.cap db q → (outcome : Outcome) → IsOutput (Tells tuple) outcome → Onward digest a db q Tells outcome
written_as digest a db q Tells tuple resumed few (Ok bytes) told = output tuple resumed few bytes told
written_as digest a db q Tells tuple resumed few (Err Memory) told = want
written_as digest a db q Tells tuple resumed few (Err _) told = absurd told

-- the cells are counted before
counted_as : (digest : List ℕ) (a : Asked) (db : List Relation) (q : Question) (Tells : Option Tuple → List ℕ → Type 0) (tuple : Option Tuple) (cap : ℕ) → a.cap ≡ Some cap → IsResumed digest q.head a.after (Ok tuple)
    → (outcome : Outcome) (counted : Result (Unit {0}) Refusal) → IsCounted a.of.way db q cap counted → After counted (λ done. IsOutput (Tells tuple)) outcome → Onward digest a db q Tells outcome
counted_as digest a db q Tells tuple cap e resumed outcome (Ok done) few next = written_as digest a db q Tells tuple resumed (subst (λ c. IsFew a.of.way c db q) (sym e) few) outcome next
counted_as digest a db q Tells tuple cap e resumed outcome (Err (Cells most step)) told next =
    subst (Onward digest a db q Tells) (sym (next)) (subst (λ c. Onward digest a db q Tells (Err (Cells c step))) (sym told.0) (many cap step e tuple resumed told.1))
counted_as digest a db q Tells tuple cap e resumed outcome (Err Memory) told next = subst (Onward digest a db q Tells) (sym next) want
counted_as digest a db q Tells tuple cap e resumed outcome (Err _) told next = absurd told

-- the page begins before that
resumed_as : (digest : List ℕ) (a : Asked) (db : List Relation) (q : Question) (Tells : Option Tuple → List ℕ → Type 0) (cap : ℕ) → a.cap ≡ Some cap
    → (outcome : Outcome) (after : Option Text) → a.after ≡ after → (resumed : Result (Option Tuple) Refusal) → IsResumed digest q.head after resumed → After resumed (λ tuple. Then (IsCounted a.of.way db q cap) (λ done. IsOutput (Tells tuple))) outcome → Onward digest a db q Tells outcome
resumed_as digest a db q Tells cap e outcome after is (Ok tuple) told next = counted_as digest a db q Tells tuple cap e (subst (λ t. IsResumed digest q.head t (Ok tuple)) (sym is) told) outcome next.first next.is next.next
resumed_as digest a db q Tells cap e outcome None is (Err r) told next = absurd (err_ok r told)
  where
    err_ok : (refusal : Refusal) → ◌≡◌ {A = Result (Option Tuple) Refusal} (Err refusal) (Ok None) → ⊥
    err_ok refusal h = cc
resumed_as digest a db q Tells cap e outcome (Some text) is (Err TokenForm) told next = subst (Onward digest a db q Tells) (sym next) (form text is told)
resumed_as digest a db q Tells cap e outcome (Some text) is (Err TokenShape) told next = subst (Onward digest a db q Tells) (sym next) (other text is told)
resumed_as digest a db q Tells cap e outcome (Some text) is (Err TokenStale) told next = subst (Onward digest a db q Tells) (sym next) (stale text is told)
resumed_as digest a db q Tells cap e outcome (Some text) is (Err Memory) told next = subst (Onward digest a db q Tells) (sym next) want
resumed_as digest a db q Tells cap e outcome (Some text) is (Err _) told next = absurd told

-- what is due after a plan
abbrev Next : Type 1
Next = Source (List Relation) → Source Question → Plan → Outcome → Type 0

-- what is due after a plan comes so
abbrev pub GoesOn : Asked → Telling → Next → Type 0
GoesOn a Tells Due = (files : Contents) (db : List Relation) (q : Question) (p : Plan) (outcome : Outcome)
    → Due (record { bytes = files.database; says = db }) (record { bytes = files.query; says = q }) p outcome → Onward (digest_of files) a db q (λ tuple. Tells (digest_of files) p tuple db q) outcome

-- a case over the bytes of both files
pub record Reached (seen : ShelfSeen) (a : Asked) (Tells : Telling) (outcome : Outcome) : Type 0 where
  pub files : Contents
  pub none : files.edits ≡ []
  pub database : AreBytesOf seen a.of.database files.database
  pub query : AreBytesOf seen a.of.query files.query
  pub case : Case seen a files Tells outcome

module _ (seen : ShelfSeen) (a : Asked) (Tells : Telling) (Due : Next) (goes_on : GoesOn a Tells Due) where
  -- the query is planned
  planned_as : (files : Contents) (db : List Relation) → SaysRelations (civil_by a.of) files db → (q : Question) → SaysQuestion (language_by a.of) files db q
      → (outcome : Outcome) (plan : Result Plan Refusal) → IsPlanned a.of.way db q plan → After plan (Due (record { bytes = files.database; says = db }) (record { bytes = files.query; says = q })) outcome → Case seen a files Tells outcome
  planned_as files db d q s outcome (Ok p) is next = planned db d q s is.1 p is.0 outcome (goes_on files db q p outcome next)
  planned_as files db d q s outcome (Err PeriodLimit) is next = subst (Case seen a files Tells) (sym next) (above_period db d q s is)
  planned_as files db d q s outcome (Err BoundLimit) is next = subst (Case seen a files Tells) (sym next) (above_bound db d q s is.0 is.1)
  planned_as files db d q s outcome (Err Memory) is next = subst (Case seen a files Tells) (sym next) wanted
  planned_as files db d q s outcome (Err _) is next = absurd is

  -- what is due after a head that fits
  abbrev AfterHead : Contents → List Relation → Question → Plan → Outcome → Type 0
  AfterHead files db q = Due (record { bytes = files.database; says = db }) (record { bytes = files.query; says = q })

  -- a plan stands after the head; where the head is refused, so is the plan
  after_head : (db : List Relation) (q : Question) (plan : Result Plan Refusal) (fit : Result (Unit {0}) Refusal) → IsHeadFit a.need q fit → After fit (λ fit. IsPlanned a.of.way db q) plan → IsPlanned a.of.way db q plan ⊎ ((unmet : HeadNeed) × (a.need ≡ Some unmet) × (IsMetBy unmet q.head → ⊥) × (plan ≡ Err (Head unmet)))
  after_head db q plan (Ok fit) is next = inl next
  after_head db q plan (Err (Head unmet)) is next = inr (unmet, is.0, is.1, next)
  after_head db q plan (Err _) is next = absurd is

  fitted_as : (files : Contents) (db : List Relation) → SaysRelations (civil_by a.of) files db → (q : Question) → SaysQuestion (language_by a.of) files db q
      → (outcome : Outcome) (plan : Result Plan Refusal) → IsPlannedAs a.of.way a.need db q plan → After plan (AfterHead files db q) outcome → Case seen a files Tells outcome
  fitted_as files db d q s outcome plan is next =
      elim (after_head db q plan is.first is.is is.next) [
        | inl fit ↦ planned_as files db d q s outcome plan fit next
        | inr unfit ↦ subst (Case seen a files Tells) (sym (subst (λ p. After p (AfterHead files db q) outcome) unfit.3 next)) (no_head db d q s unfit.0 unfit.1 unfit.2)
      ]

  -- what is due after the query
  abbrev AfterQuery : Source (List Relation) → Source Question → Outcome → Type 0
  AfterQuery d q = Then (IsPlannedAs a.of.way a.need d.says q.says) (Due d q)

  -- the query is read
  queried_as : (files : Contents) (db : List Relation) → SaysRelations (civil_by a.of) files db
      → (outcome : Outcome) (query : Result (Source Question) Refusal) → IsQueryReadOf (language_by a.of) db seen a.of.query files.query query → After query (AfterQuery (record { bytes = files.database; says = db })) outcome → Case seen a files Tells outcome
  queried_as files db d outcome (Ok q) is next =
      let same : q ≡ record { bytes = files.query; says = q.says } = ap (λ bytes. asked bytes q.says) is.0 in
      let then : AfterQuery (record { bytes = files.database; says = db }) (record { bytes = files.query; says = q.says }) outcome = subst (λ s. AfterQuery (record { bytes = files.database; says = db }) s outcome) same next in
      fitted_as files db d q.says (record { short = is.1; is = is.2 }) outcome then.first then.is then.next
    where
      asked : List ℕ → Question → Source Question
      asked bytes q = record { bytes = bytes; says = q }
  queried_as files db d outcome (Err ReadQuery) is next = subst (Case seen a files Tells) (sym next) (unread_query db d is)
  queried_as files db d outcome (Err LongQuery) is next = subst (Case seen a files Tells) (sym next) (long_query db d is.0)
  queried_as files db d outcome (Err (Query fault)) is next = subst (Case seen a files Tells) (sym next) (no_query db d fault is.0 is.1)
  queried_as files db d outcome (Err Formulas) is next = subst (Case seen a files Tells) (sym next) (too_many db d is.0 is.1)
  queried_as files db d outcome (Err Depth) is next = subst (Case seen a files Tells) (sym next) (too_deep db d is.0 is.1)
  queried_as files db d outcome (Err Memory) is next = subst (Case seen a files Tells) (sym next) wanted
  queried_as files db d outcome (Err _) is next = absurd is

  -- what is due after the database
  abbrev AfterDatabase : Source (List Relation) → Outcome → Type 0
  AfterDatabase d = Then (IsQueryRead (language_by a.of) d.says seen a.of.query) (AfterQuery d)

  -- the bytes of the query that nobody read
  unread : (outcome : Outcome) (database : List ℕ) → AreBytesOf seen a.of.database database → ((query : List ℕ) → Case seen a (two_files database query) Tells outcome) → Reached seen a Tells outcome
  unread outcome database told case =
      let some = some_bytes seen.files a.of.query in
      record { files = two_files database some.0; none = refl; database = told; query = some.1; case = case some.0 }

  -- the database is read
  read_as : (outcome : Outcome) (bytes : List ℕ) → AreBytesOf seen a.of.database bytes
      → (database : Result (Source (List Relation)) Refusal) → IsDatabaseReadOf (civil_by a.of) seen a.of.database bytes database → After database AfterDatabase outcome → Reached seen a Tells outcome
  read_as outcome bytes told (Ok d) is next =
      let same : d ≡ record { bytes = bytes; says = d.says } = ap (λ b. source b d.says) is.0 in
      let then : AfterDatabase (record { bytes = bytes; says = d.says }) outcome = subst (λ s. AfterDatabase s outcome) same next in
      record {
        files = two_files bytes then.is.bytes;
        none = refl;
        database = told;
        query = then.is.told;
        case = queried_as (two_files bytes then.is.bytes) d.says (record { short = is.1; is = is.2 }) outcome then.first then.is.is then.next;
      }
    where
      source : List ℕ → List Relation → Source (List Relation)
      source bytes db = record { bytes = bytes; says = db }
  read_as outcome bytes told (Err ReadDatabase) is next = subst (Reached seen a Tells) (sym next) (unread (Err ReadDatabase) bytes told (λ query. unread_database is))
  read_as outcome bytes told (Err LongDatabase) is next = subst (Reached seen a Tells) (sym next) (unread (Err LongDatabase) bytes told (λ query. long_database is.0))
  read_as outcome bytes told (Err (Database fault)) is next = subst (Reached seen a Tells) (sym next) (unread (Err (Database fault)) bytes told (λ query. no_database fault is.0 is.1))
  read_as outcome bytes told (Err Memory) is next = subst (Reached seen a Tells) (sym next) (unread (Err Memory) bytes told (λ query. wanted))
  read_as outcome bytes told (Err _) is next = absurd is

  -- what is due for a task that asks a query comes so
  pub reached : (outcome : Outcome) → IsPlannedFor a.of a.need seen Due outcome → Reached seen a Tells outcome
  reached outcome due = read_as outcome due.is.bytes due.is.told due.first due.is.is due.next

-- ---- the commands

pub answer_goes_on : (a : Asked) (called : Identifier) (cap : ℕ) → a.cap ≡ Some cap → a.after ≡ None → GoesOn a (λ digest p tuple. IsAnswerText called) (IsAnswered a.of.way false called cap)
answer_goes_on a called cap e n files db q p outcome due =
    counted_as (digest_of files) a db q (λ tuple. IsAnswerText called db q) None cap e (subst (λ t. IsResumed (digest_of files) q.head t (Ok None)) (sym n) refl) outcome due.first due.is due.next

-- the rows of the canonical answer are counted, and then it is told
rows_as : (digest : List ℕ) (a : Asked) (db : List Relation) (q : Question) (Tells : Option Tuple → List ℕ → Type 0) (tuple : Option Tuple) (cap : ℕ) → a.need ≡ Some Canon → a.cap ≡ Some cap → IsResumed digest q.head a.after (Ok tuple) → IsFew a.of.way a.cap db q
    → (outcome : Outcome) (counted : Result (Unit {0}) Refusal) → AreRowsCounted db q cap counted → After counted (λ done. IsOutput (Tells tuple)) outcome → Onward digest a db q Tells outcome
rows_as digest a db q Tells tuple cap c e resumed few outcome (Ok done) told next = written_as digest a db q Tells tuple resumed few outcome next
rows_as digest a db q Tells tuple cap c e resumed few outcome (Err (CanonRows most)) told next =
    subst (Onward digest a db q Tells) (sym next) (subst (λ m. Onward digest a db q Tells (Err (CanonRows m))) (sym told.0) (rows cap told.1.0 c e told.1.1 told.1.2))
rows_as digest a db q Tells tuple cap c e resumed few outcome (Err Memory) told next = subst (Onward digest a db q Tells) (sym next) want
rows_as digest a db q Tells tuple cap c e resumed few outcome (Err _) told next = absurd told

cells_as : (digest : List ℕ) (a : Asked) (db : List Relation) (q : Question) (Tells : Option Tuple → List ℕ → Type 0) (tuple : Option Tuple) (cap : ℕ) → a.need ≡ Some Canon → a.cap ≡ Some cap → IsResumed digest q.head a.after (Ok tuple)
    → (outcome : Outcome) (counted : Result (Unit {0}) Refusal) → IsCounted a.of.way db q cap counted → After counted (λ done. Then (AreRowsCounted db q cap) (λ rows. IsOutput (Tells tuple))) outcome → Onward digest a db q Tells outcome
cells_as digest a db q Tells tuple cap c e resumed outcome (Ok done) few next = rows_as digest a db q Tells tuple cap c e resumed (subst (λ m. IsFew a.of.way m db q) (sym e) few) outcome next.first next.is next.next
cells_as digest a db q Tells tuple cap c e resumed outcome (Err (Cells most step)) told next =
    subst (Onward digest a db q Tells) (sym (next)) (subst (λ m. Onward digest a db q Tells (Err (Cells m step))) (sym told.0) (many cap step e tuple resumed told.1))
cells_as digest a db q Tells tuple cap c e resumed outcome (Err Memory) told next = subst (Onward digest a db q Tells) (sym next) want
cells_as digest a db q Tells tuple cap c e resumed outcome (Err _) told next = absurd told

pub canonical_goes_on : (a : Asked) (called : Identifier) (cap : ℕ) → a.need ≡ Some Canon → a.cap ≡ Some cap → a.after ≡ None → GoesOn a (λ digest p tuple. IsCanonicalText called) (IsAnswered a.of.way true called cap)
canonical_goes_on a called cap c e n files db q p outcome due =
    cells_as (digest_of files) a db q (λ tuple. IsCanonicalText called db q) None cap c e (subst (λ t. IsResumed (digest_of files) q.head t (Ok None)) (sym n) refl) outcome due.first due.is due.next

pub decide_goes_on : (a : Asked) (dates : Bool) (cap : ℕ) → a.cap ≡ Some cap → a.after ≡ None → GoesOn a (λ digest p tuple. TellsWitness dates) (IsDecided a.of.way dates cap)
decide_goes_on a dates cap e n files db q p outcome due =
    counted_as (digest_of files) a db q (λ tuple. TellsWitness dates db q) None cap e (subst (λ t. IsResumed (digest_of files) q.head t (Ok None)) (sym n) refl) outcome due.first due.is due.next

pub explain_goes_on : (a : Asked) → a.cap ≡ None → a.after ≡ None → GoesOn a (λ digest p tuple db q. TellsPlan p) IsExplained
explain_goes_on a e n files db q p outcome due =
    written_as (digest_of files) a db q (λ tuple. TellsPlan p) None (subst (λ t. IsResumed (digest_of files) q.head t (Ok None)) (sym n) refl) (subst (λ c. IsFew a.of.way c db q) (sym e) tt) outcome due

pub list_goes_on : (a : Asked) (cap : ℕ) (from to : ℤ) (limit : ℕ) (civil json : Bool) → a.cap ≡ Some cap → GoesOn a (λ digest p tuple db q. TellsPage db q from to tuple limit civil json digest) (IsListed a.of.way civil from to limit a.after json cap)
list_goes_on a cap from to limit civil json e files db q p outcome due =
    resumed_as (digest_of files) a db q (λ tuple. TellsPage db q from to tuple limit civil json (digest_of files)) cap e outcome a.after refl due.first due.is due.next

pub number_goes_on : (a : Asked) (cap : ℕ) (from to : ℤ) → a.cap ≡ Some cap → a.after ≡ None → GoesOn a (λ digest p tuple db q. TellsNumber db q from to) (IsNumberTold a.of.way from to cap)
number_goes_on a cap from to e n files db q p outcome due =
    counted_as (digest_of files) a db q (λ tuple. TellsNumber db q from to) None cap e (subst (λ t. IsResumed (digest_of files) q.head t (Ok None)) (sym n) refl) outcome due.first due.is due.next

pub ranges_go_on : (a : Asked) (cap : ℕ) (from to : ℤ) (limit : ℕ) (civil json : Bool) → a.cap ≡ Some cap → a.after ≡ None → GoesOn a (λ digest p tuple db q. TellsRanges db q from to limit civil json) (IsRanged a.of.way civil from to limit json cap)
ranges_go_on a cap from to limit civil json e n files db q p outcome due =
    counted_as (digest_of files) a db q (λ tuple. TellsRanges db q from to limit civil json) None cap e (subst (λ t. IsResumed (digest_of files) q.head t (Ok None)) (sym n) refl) outcome due.first due.is due.next
