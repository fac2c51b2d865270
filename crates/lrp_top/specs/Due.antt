-- What is due for words: step by step, what comes of it and why it is refused; the first refusal stands.
use Rattle.std.specs.Prelude.{◌≡◌, ◌≢◌, ℕ, ℤ, Bool, true, false, ◌<◌, ◌≤◌, List, [], ◌∷◌, length, map, Option, Some, None, Result, Ok, Err, String, string_bytes}
use Rattle.std.specs.List.{AllByRecursion}
use Rattle.std.specs.declared.alloc.Global.{Global}
use Rattle.lrp_words.specs.Commands.{FilesAsked, FilesLinted, Task, command}
use Rattle.lrp_words.specs.Commands.Task.{ask, decide, list, count, ranges, explain, check, lint, watch, sample}
use Rattle.lrp_model.specs.AnswerTexts.{IsAnswerText}
use Rattle.lrp_model.specs.Caps.{IsFirstMany, ManyAt}
use Rattle.lrp_model.specs.DatabaseReading.{IsDatabase, IsDatabaseFault}
use Rattle.lrp_model.specs.Formulas.{Question}
use Rattle.lrp_model.specs.Plans.{IsPlan, HasLongPeriod, HasFarReach, IsWithinLimits}
use Rattle.lrp_model.specs.RawQueries.{RawQuestion}
use Rattle.lrp_model.specs.Texts.{Identifier, Text}
use Rattle.lrp_model.specs.declared.plans.Plan.{Plan}
use Rattle.lrp_model.specs.declared.plans.Planning.{Planning}
use Rattle.lrp_model.specs.declared.relations.Relation.{Relation}
use Rattle.lrp_plan_laws.specs.GuardedPlans.{plan_by}
use Rattle.lrp_kept.specs.KeptForm.{is_kept}
use Rattle.lrp_token.specs.Files.{files_digest}
use Rattle.lrp_top.specs.Canonical.{HasCanonicalRows, IsCanonicalText}
use Rattle.lrp_outputs.specs.Outcomes.{Outcome}
use Rattle.lrp_top.specs.Ends.{Ends}
use Rattle.lrp_top.specs.Heads.{IsHeadFit, canon_need}
use Rattle.lrp_top.specs.Resuming.{IsResumed}
use Rattle.lrp_top.specs.Sampled.{TellsSample}
use Rattle.lrp_top.specs.Seen.{ShelfSeen, SinkSeen, HasFailed, IsOverrun}
use Rattle.lrp_top.specs.Sources.{Source, FromFile}
use Rattle.lrp_top.specs.Steps.{Then}
use Rattle.lrp_top.specs.Telling.{TellsFindings, TellsNumber, TellsPage, TellsPlan, TellsRanges, TellsRelations, TellsWitness}
use Rattle.lrp_top.specs.Watched.{AreEditsRead, IsFormFit, IsWatched}
use Rattle.lrp_top.specs.Written.{IsFaultyAs, IsPlacedAs, IsSortedAs, IsOverIn, plain_by}
use Rattle.lrp_top.specs.Languages.{civil_by, language_by, usual_by, usual_language}
use Rattle.lrp_top.specs.declared.language.QueryLanguage.{QueryLanguage}
use Rattle.lrp_civil.specs.declared.values.CivilText.{CivilText}
use Rattle.lrp_wide.specs.Limits.{HasTooMany, IsTooDeep}
use Rattle.lrp_outputs.specs.declared.head.HeadNeed.{HeadNeed}
use Rattle.lrp_outputs.specs.declared.head.HeadNeed.TheVariants as needs
use Rattle.lrp_outputs.specs.declared.refusal.Refusal.{Refusal}
use Rattle.lrp_outputs.specs.declared.refusal.Refusal.TheVariants.{Usage, ReadDatabase, LongDatabase, Database, ReadQuery, LongQuery, Query, Formulas, Depth, PeriodLimit, BoundLimit, Cells, CanonRows, Watch, Memory}
use Rattle.lrp_outputs.specs.declared.watch_refusal.WatchRefusal.TheVariants as watch_refusal
use Rattle.lrp_outputs.specs.declared.status.Status.{Status}
use Rattle.lrp_model.specs.Limits.{most_bytes}

-- ---- the steps

-- the file of the database is read. Ok: its bytes, and the relations that its text means. Refused: its count of faults rose, it is too long, or its text has a fault; or want of memory
abbrev pub IsDatabaseReadOf : Option CivilText → ShelfSeen → Identifier → List ℕ → Result (Source (List Relation)) Refusal → Type 0
IsDatabaseReadOf civil seen name bytes (Ok database) = (database.bytes ≡ bytes) × (length bytes ≤ most_bytes) × IsDatabase (plain_by civil bytes) database.says
IsDatabaseReadOf civil seen name bytes (Err ReadDatabase) = HasFailed seen name
IsDatabaseReadOf civil seen name bytes (Err LongDatabase) = (most_bytes < length bytes) × IsOverrun seen name
IsDatabaseReadOf civil seen name bytes (Err (Database fault)) = (length bytes ≤ most_bytes) × IsDatabaseFault (plain_by civil bytes) fault
IsDatabaseReadOf civil seen name bytes (Err Memory) = Unit {0}
IsDatabaseReadOf civil seen name bytes (Err _) = ⊥

-- the same for some bytes, which are the file's where the files are told
abbrev pub IsDatabaseRead : Option CivilText → ShelfSeen → Identifier → Result (Source (List Relation)) Refusal → Type 0
IsDatabaseRead civil seen name = FromFile seen name (IsDatabaseReadOf civil seen name)

-- the file of the query is read. Ok: its bytes, and the query that they say, well-sorted over the relations. Refused: its count of faults rose, it is too long, its text has a fault, its expanded query has too many formulas or one that is too deep, or its sorts have a fault; or want of memory
abbrev pub IsQueryReadOf : QueryLanguage → List Relation → ShelfSeen → Identifier → List ℕ → Result (Source Question) Refusal → Type 0
IsQueryReadOf language db seen name bytes (Ok query) = (query.bytes ≡ bytes) × (length bytes ≤ most_bytes) × IsSortedAs language db bytes query.says
IsQueryReadOf language db seen name bytes (Err ReadQuery) = HasFailed seen name
IsQueryReadOf language db seen name bytes (Err LongQuery) = (most_bytes < length bytes) × IsOverrun seen name
IsQueryReadOf language db seen name bytes (Err (Query fault)) = (length bytes ≤ most_bytes) × IsFaultyAs language db bytes fault
IsQueryReadOf language db seen name bytes (Err Formulas) = (length bytes ≤ most_bytes) × IsOverIn HasTooMany language db bytes
IsQueryReadOf language db seen name bytes (Err Depth) = (length bytes ≤ most_bytes) × IsOverIn IsTooDeep language db bytes
IsQueryReadOf language db seen name bytes (Err Memory) = Unit {0}
IsQueryReadOf language db seen name bytes (Err _) = ⊥

-- the same for some bytes, which are the file's where the files are told
abbrev pub IsQueryRead : QueryLanguage → List Relation → ShelfSeen → Identifier → Result (Source Question) Refusal → Type 0
IsQueryRead language db seen name = FromFile seen name (IsQueryReadOf language db seen name)

-- the query is read with its places. Ok: it, well-sorted over the relations, with temporal operators written out. Refused: as a query is
abbrev pub IsPlacedReadOf : Bool → List Relation → ShelfSeen → Identifier → List ℕ → Result (Option RawQuestion) Refusal → Type 0
IsPlacedReadOf tense db seen name bytes (Ok None) = ⊥
IsPlacedReadOf tense db seen name bytes (Ok (Some raw)) = (length bytes ≤ most_bytes) × IsPlacedAs tense db bytes raw
IsPlacedReadOf tense db seen name bytes (Err refusal) = IsQueryReadOf (usual_language tense) db seen name bytes (Err refusal)

-- the same for some bytes, which are the file's where the files are told; without a name there is no query
abbrev pub IsNamedRead : Bool → List Relation → ShelfSeen → Option Identifier → Result (Option RawQuestion) Refusal → Type 0
IsNamedRead tense db seen None asked = asked ≡ Ok None
IsNamedRead tense db seen (Some name) asked = FromFile seen name (IsPlacedReadOf tense db seen name) asked

-- the query is planned by this way of planning. Ok: its plan. Refused: its period is above the greatest number, or that is not but the reach of its steps is, doubled once and once more for each time column of the head; or want of memory
abbrev pub IsPlanned : Planning → List Relation → Question → Result Plan Refusal → Type 0
IsPlanned way db q (Ok p) = IsPlan p (plan_by way db q) db q × IsWithinLimits (plan_by way db q) db q
IsPlanned way db q (Err PeriodLimit) = HasLongPeriod db q
IsPlanned way db q (Err BoundLimit) = HasFarReach (plan_by way db q) db q
IsPlanned way db q (Err Memory) = Unit {0}
IsPlanned way db q (Err _) = ⊥

-- the head is looked at for what is needed, and then the query is planned
abbrev pub IsPlannedAs : Planning → Option HeadNeed → List Relation → Question → Result Plan Refusal → Type 0
IsPlannedAs way need db q = Then (IsHeadFit need q) (λ fit. IsPlanned way db q)

-- the cells of the steps of the plan by this way are counted. Ok: no step has more than cap. Refused: the first that has is told; or want of memory
abbrev pub IsCounted : Planning → List Relation → Question → ℕ → Result (Unit {0}) Refusal → Type 0
IsCounted way db q cap (Ok done) = (s : ℕ) → ManyAt (plan_by way db q) db q cap s → ⊥
IsCounted way db q cap (Err (Cells most step)) = (most ≡ cap) × IsFirstMany (plan_by way db q) db q cap step
IsCounted way db q cap (Err Memory) = Unit {0}
IsCounted way db q cap (Err _) = ⊥

-- the rows of the canonical answer are counted. Ok: they are at most cap. Refused: they are more; or want of memory
abbrev pub AreRowsCounted : List Relation → Question → ℕ → Result (Unit {0}) Refusal → Type 0
AreRowsCounted db q cap (Ok done) = (n : ℕ) × HasCanonicalRows db q n × (n ≤ cap)
AreRowsCounted db q cap (Err (CanonRows most)) = (most ≡ cap) × ((n : ℕ) × HasCanonicalRows db q n × (cap < n))
AreRowsCounted db q cap (Err Memory) = Unit {0}
AreRowsCounted db q cap (Err _) = ⊥

-- the output is written. Ok: bytes that tell what is due. Refused: want of memory alone
abbrev pub IsOutput : (List ℕ → Type 0) → Outcome → Type 0
IsOutput Tells (Ok bytes) = Tells bytes
IsOutput Tells (Err Memory) = Unit {0}
IsOutput Tells (Err _) = ⊥

-- ---- what is due after a plan

-- the plan is told
abbrev pub IsExplained : Source (List Relation) → Source Question → Plan → Outcome → Type 0
IsExplained d q p = IsOutput (TellsPlan p)

-- the cells are counted, and then all answers are told; where the canonical answer is asked for, its rows are counted, and then it is told
abbrev pub IsAnswered : Planning → Bool → Identifier → ℕ → Source (List Relation) → Source Question → Plan → Outcome → Type 0
IsAnswered way false called cap d q p = Then (IsCounted way d.says q.says cap) (λ done. IsOutput (IsAnswerText called d.says q.says))
IsAnswered way true called cap d q p =
    Then (IsCounted way d.says q.says cap) (λ done. Then (AreRowsCounted d.says q.says cap) (λ counted. IsOutput (IsCanonicalText called d.says q.says)))

-- the cells are counted, and then the least answer is told, or that there is none
abbrev pub IsDecided : Planning → Bool → ℕ → Source (List Relation) → Source Question → Plan → Outcome → Type 0
IsDecided way dates cap d q p = Then (IsCounted way d.says q.says cap) (λ done. IsOutput (TellsWitness dates d.says q.says))

-- the page begins where its token says, the cells are counted, and then the page of the window is told
abbrev pub IsListed : Planning → Bool → ℤ → ℤ → ℕ → Option Text → Bool → ℕ → Source (List Relation) → Source Question → Plan → Outcome → Type 0
IsListed way civil from to limit after json cap d q p =
    let digest = files_digest d.bytes q.bytes in
    Then (IsResumed digest q.says.head after) (λ tuple. Then (IsCounted way d.says q.says cap) (λ done. IsOutput (TellsPage d.says q.says from to tuple limit civil json digest)))

-- the cells are counted, and then the number of answers in the window is told
abbrev pub IsNumberTold : Planning → ℤ → ℤ → ℕ → Source (List Relation) → Source Question → Plan → Outcome → Type 0
IsNumberTold way from to cap d q p = Then (IsCounted way d.says q.says cap) (λ done. IsOutput (TellsNumber d.says q.says from to))

-- the cells are counted, and then the answers in the window are told as ranges
abbrev pub IsRanged : Planning → Bool → ℤ → ℤ → ℕ → Bool → ℕ → Source (List Relation) → Source Question → Plan → Outcome → Type 0
IsRanged way civil from to limit json cap d q p = Then (IsCounted way d.says q.says cap) (λ done. IsOutput (TellsRanges d.says q.says from to limit civil json))

-- ---- what is due for a task

-- a database is read, then a query over its relations, then the query is planned, whose head is to have what is needed, and then this is due
abbrev pub IsPlannedFor : {B : Type 0} → FilesAsked → Option HeadNeed → ShelfSeen → (Source (List Relation) → Source Question → Plan → Result B Refusal → Type 0) → Result B Refusal → Type 0
IsPlannedFor of need seen Next result =
    Then (IsDatabaseRead (civil_by of) seen of.database) (λ d. Then (IsQueryRead (language_by of) d.says seen of.query) (λ q. Then (IsPlannedAs of.way need d.says q.says) (Next d q))) result

-- a database is read, then a query over its relations, which is to be in kept form or may have another, then edits of the database, and then they are made
abbrev pub IsWatchedFor : ShelfSeen → Identifier → Identifier → Identifier → ℕ → Planning → Bool → Outcome → Type 0
IsWatchedFor seen database query edits cap way auto =
    Then (IsDatabaseRead None seen database) (λ d. Then (IsQueryRead (usual_language false) d.says seen query) (λ q. Then (IsFormFit auto q.says) (λ fit. Then (AreEditsRead d.says seen edits) (IsWatched (is_kept q.says) way d.says q.says cap))))

-- the query is read so, and then it is told what is silently wrong in the database, and in the query where there is one
abbrev pub IsLintedBy : List Relation → (Result (Option RawQuestion) Refusal → Type 0) → Outcome → Type 0
IsLintedBy db IsRead = Then IsRead (λ asked. IsOutput (TellsFindings db asked))

-- over a database, with the query of this file where one is named
abbrev pub IsLintedOver : Bool → List Relation → ShelfSeen → Option Identifier → Outcome → Type 0
IsLintedOver tense db seen query = IsLintedBy db (IsNamedRead tense db seen query)

-- a database is read, then a query over its relations where one is named, and then it is told what is silently wrong in them
abbrev pub IsLinted : FilesLinted → ShelfSeen → Outcome → Type 0
IsLinted of seen = Then (IsDatabaseRead (usual_by of.civil) seen of.database) (λ d. IsLintedOver of.tense d.says seen of.query)

-- each task; the sample makes its own texts, and is refused for want of memory alone
abbrev pub IsDueOf : Task → ShelfSeen → Outcome → Type 0
IsDueOf (ask of cap canon called) seen outcome = IsPlannedFor of (canon_need canon) seen (IsAnswered of.way canon called cap) outcome
IsDueOf (decide of cap dates) seen outcome = IsPlannedFor of None seen (IsDecided of.way dates cap) outcome
IsDueOf (list of from to limit after json cap) seen outcome = IsPlannedFor of None seen (IsListed of.way of.civil from to limit after json cap) outcome
IsDueOf (count of from to cap) seen outcome = IsPlannedFor of (Some needs.Count) seen (IsNumberTold of.way from to cap) outcome
IsDueOf (ranges of from to limit json cap) seen outcome = IsPlannedFor of (Some needs.Ranges) seen (IsRanged of.way of.civil from to limit json cap) outcome
IsDueOf (explain of) seen outcome = IsPlannedFor of None seen IsExplained outcome
IsDueOf (check database civil) seen outcome = Then (IsDatabaseRead (usual_by civil) seen database) (λ d. IsOutput (TellsRelations d.says)) outcome
IsDueOf (lint of) seen outcome = IsLinted of seen outcome
IsDueOf (watch database query edits cap way auto) seen outcome = IsWatchedFor seen database query edits cap way auto outcome
IsDueOf (sample seed size) seen outcome = IsOutput (TellsSample seed size) outcome

-- ---- the lengths of files

-- the name of a query's file, where there is one
abbrev pub query_named : Option Identifier → List Identifier
query_named None = []
query_named (Some name) = name ∷ []

-- the names of the files that a task reads
abbrev pub files_of : Task → List Identifier
files_of (ask of cap canon called) = of.database ∷ of.query ∷ []
files_of (decide of cap dates) = of.database ∷ of.query ∷ []
files_of (list of from to limit after json cap) = of.database ∷ of.query ∷ []
files_of (count of from to cap) = of.database ∷ of.query ∷ []
files_of (ranges of from to limit json cap) = of.database ∷ of.query ∷ []
files_of (explain of) = of.database ∷ of.query ∷ []
files_of (check database civil) = database ∷ []
files_of (lint of) = of.database ∷ query_named of.query
files_of (watch database query edits cap way auto) = database ∷ query ∷ edits ∷ []
files_of (sample seed size) = []

-- the names of the files that words name: none where they spell no task
abbrev pub files_asked : Option Task → List Identifier
files_asked None = []
files_asked (Some task) = files_of task

-- the same for words as the program has them
abbrev pub files_named : List (String Global) → List Identifier
files_named words = files_asked (command (map string_bytes words))

-- a file is too long; or want of memory
abbrev pub IsLengthOrMemory : {B : Type 0} → Result B Refusal → Type 0
IsLengthOrMemory (Err LongDatabase) = Unit {0}
IsLengthOrMemory (Err LongQuery) = Unit {0}
IsLengthOrMemory (Err (Watch watch_refusal.Long)) = Unit {0}
IsLengthOrMemory (Err Memory) = Unit {0}
IsLengthOrMemory _ = ⊥

-- ---- what is due for words, and the run

-- for words that spell no task it is the refusal of usage; for a task it is what is due, and where one of its files may have been overrun, a file is too long
abbrev pub IsDueFor : Option Task → ShelfSeen → Outcome → Type 0
IsDueFor None seen outcome = outcome ≡ Err Usage
IsDueFor (Some task) seen outcome = IsDueOf task seen outcome × AllByRecursion (λ name. IsOverrun seen name → IsLengthOrMemory outcome) (files_of task)

-- what is due for words
abbrev pub IsDue : List (String Global) → ShelfSeen → Outcome → Type 0
IsDue words seen outcome = IsDueFor (command (map string_bytes words)) seen outcome

-- a run of these words: what is due for them is what it ends with
pub record IsRun (words : List (String Global)) (seen : ShelfSeen) (taken : SinkSeen) (ended : Status) : Type 0 where
  pub outcome : Outcome
  pub due : IsDue words seen outcome
  pub ends : Ends outcome taken ended
