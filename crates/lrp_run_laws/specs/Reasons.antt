-- For each status why a run ended so.
use Rattle.std.specs.Prelude.{◌≡◌, ◌⊎◌, ℕ, ◌<◌, ◌≤◌, false, ◌||◌, List, length, Option, Some, None}
use Rattle.lrp_io.specs.Causes.{Rose}
use Rattle.lrp_words.specs.Commands.{FilesAsked, Task}
use Rattle.lrp_words.specs.Commands.Task.{ask, decide, list, count, ranges, explain, check, lint, watch, sample}
use Rattle.lrp_model.specs.Caps.{IsFirstMany}
use Rattle.lrp_model.specs.DatabaseReading.{IsDatabaseFault}
use Rattle.lrp_model.specs.Formulas.{Question}
use Rattle.lrp_model.specs.Periods.{period}
use Rattle.lrp_model.specs.Plans.{scaled_reach}
use Rattle.lrp_model.specs.Texts.{Identifier, Text}
use Rattle.lrp_model.specs.declared.faults.DbFault.{DbFault}
use Rattle.lrp_model.specs.declared.faults.QueryFault.{QueryFault}
use Rattle.lrp_model.specs.declared.plans.Planning.{Planning}
use Rattle.lrp_model.specs.declared.relations.Relation.{Relation}
use Rattle.lrp_plan_laws.specs.GuardedPlans.{plan_by}
use Rattle.lrp_edits.specs.EditReading.{IsEditsFault}
use Rattle.lrp_kept.specs.KeptForm.{is_kept}
use Rattle.lrp_token.specs.Reading.{IsNoToken, HasOtherCounts}
use Rattle.lrp_top.specs.Canonical.{HasCanonicalRows}
use Rattle.lrp_outputs.specs.Outcomes.{line_of}
use Rattle.lrp_outputs.specs.declared.head.HeadNeed.{HeadNeed}
use Rattle.lrp_outputs.specs.declared.head.HeadNeed.TheVariants as needs
use Rattle.lrp_outputs.specs.declared.head.HeadNeed.TheVariants.{Canon}
use Rattle.lrp_top.specs.Heads.{IsMetBy, canon_need}
use Rattle.lrp_top.specs.Resuming.{IsStale, shape_of}
use Rattle.lrp_top.specs.Seen.{ShelfSeen, SinkSeen, HasFailed}
use Rattle.lrp_top.specs.Written.{IsFaultyAs, IsOverIn, plain_by}
use Rattle.lrp_top.specs.Languages.{civil_by, language_by, usual_by, usual_language}
use Rattle.lrp_top.specs.declared.language.QueryLanguage.{QueryLanguage}
use Rattle.lrp_top.specs.declared.language.QueryLanguage.TheVariants.{FirstOrder}
use Rattle.lrp_wide.specs.Limits.{HasTooMany, IsTooDeep}
use Rattle.lrp_civil.specs.declared.values.CivilText.{CivilText}
use Rattle.lrp_outputs.specs.declared.refusal.Refusal.TheVariants as refusal
use Rattle.lrp_outputs.specs.declared.status.Status.{Status}
use Rattle.lrp_outputs.specs.declared.status.Status.TheVariants as status
use Rattle.lrp_run_laws.specs.Contents.{Contents, AreContentsFor, digest_of, Keeping, OverDatabase, OverQuery, Watching}
use Rattle.lrp_run_laws.specs.Tasks.{PassesLimit}
use Rattle.lrp_run_laws.specs.Runs.{Run, task_asked, WroteAll, WroteOutput}
use Rattle.lrp_model.specs.Limits.{most_bytes, greatest_number}

-- of a task that reads a database: this holds of the civil values that its text may have
abbrev pub OfDatabase : (Option CivilText → Type 0) → Task → Type 0
OfDatabase Holds (ask of cap canon called) = Holds (civil_by of)
OfDatabase Holds (decide of cap dates) = Holds (civil_by of)
OfDatabase Holds (list of from to limit after json cap) = Holds (civil_by of)
OfDatabase Holds (count of from to cap) = Holds (civil_by of)
OfDatabase Holds (ranges of from to limit json cap) = Holds (civil_by of)
OfDatabase Holds (explain of) = Holds (civil_by of)
OfDatabase Holds (check database civil) = Holds (usual_by civil)
OfDatabase Holds (lint of) = Holds (usual_by of.civil)
OfDatabase Holds _ = ⊥

-- of a task that asks a query: this holds of its files, of what its head needs, of the token and of the cap
abbrev pub OfQuery : (FilesAsked → Option HeadNeed → Option Text → Option ℕ → Type 0) → Task → Type 0
OfQuery Holds (ask of cap canon called) = Holds of (canon_need canon) None (Some cap)
OfQuery Holds (decide of cap dates) = Holds of None None (Some cap)
OfQuery Holds (list of from to limit after json cap) = Holds of None after (Some cap)
OfQuery Holds (count of from to cap) = Holds of (Some needs.Count) None (Some cap)
OfQuery Holds (ranges of from to limit json cap) = Holds of (Some needs.Ranges) None (Some cap)
OfQuery Holds (explain of) = Holds of None None None
OfQuery Holds _ = ⊥

-- the database's bytes are too many, or their text has a fault
abbrev pub IsNoDatabase : Contents → Option CivilText → Type 0
IsNoDatabase files civil = (most_bytes < length files.database) ⊎ ((fault : DbFault) × IsDatabaseFault (plain_by civil files.database) fault)

-- the query's bytes are too many, or their text or its sorts have a fault
abbrev pub IsNoQuery : Contents → QueryLanguage → List Relation → Type 0
IsNoQuery files language db = (most_bytes < length files.query) ⊎ ((fault : QueryFault) × IsFaultyAs language db files.query fault)

-- the edits' bytes are too many, or their text has a fault
abbrev pub AreNoEdits : Contents → List Relation → Question → Type 0
AreNoEdits files db q = (most_bytes < length files.edits) ⊎ ((fault : DbFault) × IsEditsFault files.edits db fault)

-- the text is no token, is one with other counts than the head's, or is one of other files
abbrev pub IsNoTokenOf : List ℕ → Option Text → List Relation → Question → Type 0
IsNoTokenOf digest None db q = ⊥
IsNoTokenOf digest (Some text) db q = IsNoToken text ⊎ HasOtherCounts text (shape_of q.head) ⊎ IsStale digest q.head text

-- the head hasn't the columns that are needed
abbrev pub HasOtherHead : Option HeadNeed → Question → Type 0
HasOtherHead None q = ⊥
HasOtherHead (Some need) q = IsMetBy need q.head → ⊥

-- the head or the token is refused
abbrev pub IsRefusedAfter : Option HeadNeed → List ℕ → Option Text → List Relation → Question → Type 0
IsRefusedAfter need digest after db q = HasOtherHead need q ⊎ IsNoTokenOf digest after db q

-- a step of the plan by this way has more than cap cells; this is the first
abbrev pub HasMany : Planning → Option ℕ → List Relation → Question → Type 0
HasMany way None db q = ⊥
HasMany way (Some cap) db q = (s : ℕ) × IsFirstMany (plan_by way db q) db q cap s

-- the canonical answer has more than cap rows
abbrev pub HasManyRows : Option ℕ → List Relation → Question → Type 0
HasManyRows None db q = ⊥
HasManyRows (Some cap) db q = (n : ℕ) × HasCanonicalRows db q n × (cap < n)

-- the period is above the greatest number, the scaled reach of the plan by this way is, a step has more than cap cells, or a canonical answer is asked for and has more than cap rows
abbrev pub IsAboveLimits : Planning → Option HeadNeed → Option ℕ → List Relation → Question → Type 0
IsAboveLimits way need cap db q = (greatest_number < period db q.body) ⊎ (greatest_number < scaled_reach (plan_by way db q) q) ⊎ HasMany way cap db q ⊎ ((need ≡ Some Canon) × HasManyRows cap db q)

-- there is no database; or, for a watch, there are one and a query over it in kept form, or in any where that is asked for, and there are no edits
abbrev pub IsDatabaseRefused : Contents → Task → Type 0
IsDatabaseRefused files (watch database query edits cap way auto) = IsNoDatabase files None ⊎ Keeping auto files (AreNoEdits files)
IsDatabaseRefused files task = OfDatabase (IsNoDatabase files) task

-- this holds of the name of a query's file, and there is one
abbrev pub WhereNamed : Option Identifier → (Identifier → Type 0) → Type 0
WhereNamed None Holds = ⊥
WhereNamed (Some name) Holds = Holds name

-- there is no query over the database; or there is, and the head or the token is refused, or for a watch its form
abbrev pub IsQueryRefused : Contents → Task → Type 0
IsQueryRefused files (watch database query edits cap way auto) = OverDatabase None files (λ db. IsNoQuery files FirstOrder db ⊎ OverQuery FirstOrder files (λ db q. (is_kept q || auto) ≡ false) db)
IsQueryRefused files (lint of) = OverDatabase (usual_by of.civil) files (λ db. WhereNamed of.query (λ name. IsNoQuery files (usual_language of.tense) db))
IsQueryRefused files task = OfQuery (λ of need after cap. OverDatabase (civil_by of) files (λ db. IsNoQuery files (language_by of) db ⊎ OverQuery (language_by of) files (IsRefusedAfter need (digest_of files) after) db)) task

-- the query's text is within the length, and what it says has too many formulas or one that is too deep
abbrev pub IsQueryTooLarge : Contents → QueryLanguage → List Relation → Type 0
IsQueryTooLarge files language db = (length files.query ≤ most_bytes) × (IsOverIn HasTooMany language db files.query ⊎ IsOverIn IsTooDeep language db files.query)

-- over the database the query is too large, or there is a query, and it is above a limit, or for a watch some edit is
abbrev pub IsQueryAbove : Contents → Task → Type 0
IsQueryAbove files (watch database query edits cap way auto) = Watching auto files (PassesLimit way cap)
IsQueryAbove files task = OfQuery (λ of need after cap. OverDatabase (civil_by of) files (λ db. IsQueryTooLarge files (language_by of) db ⊎ OverQuery (language_by of) files (IsAboveLimits of.way need cap) db)) task

-- the count of faults of the database's name rose; or there is a database, and that of the query's name rose
abbrev pub HasFailedOneOf : ShelfSeen → Contents → Option CivilText → Identifier → Identifier → Type 0
HasFailedOneOf seen files civil database query = HasFailed seen database ⊎ OverDatabase civil files (λ db. HasFailed seen query)

-- a file of the task failed
abbrev pub HasFailedFile : ShelfSeen → Contents → Task → Type 0
HasFailedFile seen files (ask of cap canon called) = HasFailedOneOf seen files (civil_by of) of.database of.query
HasFailedFile seen files (decide of cap dates) = HasFailedOneOf seen files (civil_by of) of.database of.query
HasFailedFile seen files (list of from to limit after json cap) = HasFailedOneOf seen files (civil_by of) of.database of.query
HasFailedFile seen files (count of from to cap) = HasFailedOneOf seen files (civil_by of) of.database of.query
HasFailedFile seen files (ranges of from to limit json cap) = HasFailedOneOf seen files (civil_by of) of.database of.query
HasFailedFile seen files (explain of) = HasFailedOneOf seen files (civil_by of) of.database of.query
HasFailedFile seen files (check database civil) = HasFailed seen database
HasFailedFile seen files (lint of) = HasFailed seen of.database ⊎ OverDatabase (usual_by of.civil) files (λ db. WhereNamed of.query (HasFailed seen))
HasFailedFile seen files (watch database query edits cap way auto) = HasFailedOneOf seen files None database query ⊎ Keeping auto files (λ db q. HasFailed seen edits)
HasFailedFile seen files (sample seed size) = ⊥

-- why a run of the task ended so; want of memory has no cause, and its line is written
abbrev pub IsReason : Status → Task → Contents → ShelfSeen → SinkSeen → Type 0
IsReason status.Done task files seen taken = WroteOutput task files taken
IsReason status.Usage task files seen taken = ⊥
IsReason status.Database task files seen taken = IsDatabaseRefused files task
IsReason status.Query task files seen taken = IsQueryRefused files task
IsReason status.Limit task files seen taken = IsQueryAbove files task
IsReason status.Read task files seen taken = HasFailedFile seen files task
IsReason status.Write task files seen taken = Rose taken.faults_before taken.faults
IsReason status.Memory task files seen taken = WroteAll taken (line_of refusal.Memory)

-- words that spell no task are refused as usage, unless the line could not be written
abbrev pub IsUsage : Status → SinkSeen → Type 0
IsUsage status.Usage taken = WroteAll taken (line_of refusal.Usage)
IsUsage status.Write taken = Rose taken.faults_before taken.faults
IsUsage _ taken = ⊥

-- over the bytes of its files
pub record HasTaskReason (task : Task) (run : Run) : Type 0 where
  pub files : Contents
  pub told : AreContentsFor run.seen task files
  pub is : IsReason run.ended task files run.seen run.taken

-- why the run ended so, where this is the task that its words spell, if they do
abbrev pub HasReasonFor : Option Task → Run → Type 0
HasReasonFor None run = IsUsage run.ended run.taken
HasReasonFor (Some task) run = HasTaskReason task run

abbrev pub HasReason : Run → Type 0
HasReason run = HasReasonFor (task_asked run) run
