-- A database that is kept, with the answers of a page, and what is told of it.
use Rattle.std.specs.Prelude.{◌≡◌, ◌≤◌, ℕ, Bool, List, String, length, Option, None, Some, Result, Ok, Err, IfSome}
use Rattle.std.specs.declared.alloc.Global.{Global}
use Rattle.lrp_civil.specs.declared.values.CivilText.{CivilText}
use Rattle.lrp_eval.specs.Answered.{IsAnswerOf}
use Rattle.lrp_eval.specs.Planned.{IsPlanOf}
use Rattle.lrp_model.specs.DatabaseReading.{IsDatabase}
use Rattle.lrp_model.specs.Formulas.{Question as Queried, question_of}
use Rattle.lrp_model.specs.Limits.{most_bytes}
use Rattle.lrp_model.specs.Texts.{Identifier}
use Rattle.lrp_model.specs.declared.plans.Plan.{Plan}
use Rattle.lrp_model.specs.declared.plans.Planning.{Planning}
use Rattle.lrp_model.specs.declared.relations.Relation.{Relation}
use Rattle.lrp_plan_laws.specs.GuardedPlans.{plan_by}
use Rattle.lrp_answers.specs.Pauses.{IsPausedOf}
use Rattle.lrp_outputs.specs.Outcomes.{Outcome}
use Rattle.lrp_outputs.specs.declared.refusal.Refusal.{Refusal}
use Rattle.lrp_outputs.specs.declared.status.Status.{Status}
use Rattle.lrp_token.specs.Files.{files_digest}
use Rattle.lrp_words.specs.Commands.{asked_files}
use Rattle.lrp_words.specs.declared.command.QuestionFiles.{QuestionFiles}
use Rattle.lrp_top.specs.Due.{IsCounted, IsDue, IsPlannedAs}
use Rattle.lrp_top.specs.Ends.{Ends}
use Rattle.lrp_top.specs.Questions.{IsAsked, IsServed, need_of}
use Rattle.lrp_top.specs.Seen.{AreBytesOf, IsOverrun, ShelfSeen, SinkSeen}
use Rattle.lrp_top.specs.Sources.{Source}
use Rattle.lrp_top.specs.Written.{IsSortedAs, plain_by}
use Rattle.lrp_top.specs.Languages.{civil_by, language_by}
use Rattle.lrp_top.specs.declared.language.QueryLanguage.{QueryLanguage}
use Rattle.lrp_words.specs.declared.purpose.Asked.{Asked}
use Rattle.lrp_top.specs.declared.files.DatabaseFile.{DatabaseFile}
use Rattle.lrp_top.specs.declared.files.QueryFile.{QueryFile}
use Rattle.lrp_top.specs.declared.keeping.KeptAnswer.{KeptAnswer}
use Rattle.lrp_top.specs.declared.keeping.KeptDatabase.{KeptDatabase}
use Rattle.lrp_top.specs.declared.keeping.KeptQuery.{KeptQuery}
use Rattle.lrp_top.specs.declared.paging.Begun.{Begun}
use Rattle.lrp_top.specs.declared.paging.PageAsked.{PageAsked}
use Rattle.lrp_words.specs.declared.purpose.Purpose.{Purpose}
use Rattle.lrp_words.specs.declared.purpose.Purpose.TheVariants as purpose
use Rattle.lrp_top.specs.declared.question.Question.{Question}
use Rattle.lrp_top.specs.declared.questioning.Unasked.{Unasked}

-- ---- how a question's files are written

-- which civil values its database may have
abbrev pub civil_asked : QuestionFiles → Option CivilText
civil_asked files = civil_by (asked_files files)

-- in which language its query is
abbrev pub language_asked : QuestionFiles → QueryLanguage
language_asked files = language_by (asked_files files)

-- ---- what is kept

-- the relations are those that the file's bytes mean, which have civil values of a kind, if any
pub record IsFileRead (civil : Option CivilText) (file : DatabaseFile) : Type 0 where
  pub short : length file.bytes ≤ most_bytes
  pub means : IsDatabase (plain_by civil file.bytes) file.relations

-- the query is the one that the file's bytes say in a language, well-sorted over the relations
pub record IsQuerySaid (language : QueryLanguage) (db : List Relation) (file : QueryFile) : Type 0 where
  pub short : length file.bytes ≤ most_bytes
  pub says : IsSortedAs language db file.bytes (question_of file.query)

-- the answers are those of the query over the database, found by its plan with no step of more cells than its cap
pub record IsAnswerKept (d : DatabaseFile) (kept : KeptAnswer) : Type 0 where
  pub said : IsQuerySaid kept.query.language d.relations kept.query.file
  pub plan : Plan
  pub planned : IsPlannedAs kept.query.planning None d.relations (question_of kept.query.file.query) (Ok plan)
  pub sound : IsPlanOf (plan_by kept.query.planning d.relations (question_of kept.query.file.query)) d.relations (question_of kept.query.file.query) plan
  pub counted : IsCounted kept.query.planning d.relations (question_of kept.query.file.query) kept.query.cap (Ok tt)
  pub answers : IsAnswerOf (plan_by kept.query.planning d.relations (question_of kept.query.file.query)) d.relations (question_of kept.query.file.query) kept.query.cap kept.answer
  pub digest : kept.query.files ≡ files_digest d.bytes kept.query.file.bytes
  pub paused : IfSome kept.paused (IsPausedOf kept.answer)

-- the database is that of these bytes, with answers of a query over it, if any
pub record IsKeptOf (civil : Option CivilText) (bytes : List ℕ) (kept : KeptDatabase) : Type 0 where
  pub civil_is : kept.civil ≡ civil
  pub bytes_are : kept.file.bytes ≡ bytes
  pub read : IsFileRead civil kept.file
  pub last : IfSome kept.last (IsAnswerKept kept.file)

-- the database is that of its own bytes
abbrev pub IsDatabaseKept : KeptDatabase → Type 0
IsDatabaseKept kept = IsKeptOf kept.civil kept.file.bytes kept

-- the database was read as the question reads it
abbrev pub IsReadFor : Asked → KeptDatabase → Type 0
IsReadFor asked kept = kept.civil ≡ civil_asked asked.files

-- the query that is kept has these bytes, and was asked with these words
pub record AsksSame (files : QuestionFiles) (cap : ℕ) (bytes : List ℕ) (kept : KeptQuery) : Type 0 where
  pub language : kept.language ≡ language_asked files
  pub planning : kept.planning ≡ files.planning
  pub cap_is : kept.cap ≡ cap
  pub bytes_are : kept.file.bytes ≡ bytes

abbrev pub AsksAgain : QuestionFiles → ℕ → List ℕ → KeptAnswer → Type 0
AsksAgain files cap bytes kept = AsksSame files cap bytes kept.query

-- ---- what is told

-- what is due for the question, wherever its files have these bytes
abbrev pub IsDueOver : Asked → List ℕ → List ℕ → Outcome → Type 0
IsDueOver asked database query outcome =
    (seen : ShelfSeen) → AreBytesOf seen asked.files.database.now database → AreBytesOf seen asked.files.query.now query → IsAsked asked.files (need_of asked.purpose) seen (IsServed asked.files.planning asked.purpose) outcome

-- an outcome of which this is so is what it ends with
pub record IsEndedBy (Is : Outcome → Type 0) (taken : SinkSeen) (ended : Status) : Type 0 where
  pub outcome : Outcome
  pub is : Is outcome
  pub ends : Ends outcome taken ended

-- what is due for the question is what it ends with
abbrev pub IsToldOf : Asked → List ℕ → List ℕ → SinkSeen → Status → Type 0
IsToldOf asked database query = IsEndedBy (IsDueOver asked database query)

-- the question that the words ask: what is due for it is due for them, where no file is overrun
abbrev pub MeansDue : List (String Global) → Asked → Type 0
MeansDue words asked =
    (seen : ShelfSeen) (outcome : Outcome) → ((name : Identifier) → IsOverrun seen name → ⊥) → IsAsked asked.files (need_of asked.purpose) seen (IsServed asked.files.planning asked.purpose) outcome → IsDue words seen outcome

-- ---- pages

-- the page is due for the question, wherever its files have these bytes
abbrev pub IsPageDue : PageAsked → List ℕ → List ℕ → Outcome → Type 0
IsPageDue page = IsDueOver (record { files = page.files; purpose = purpose.Page page.paging })

abbrev pub IsPageTold : PageAsked → List ℕ → List ℕ → SinkSeen → Status → Type 0
IsPageTold page database query = IsEndedBy (IsPageDue page database query)

-- the page of a query over a database, after any plan
abbrev pub IsPageListed : Planning → PageAsked → Source (List Relation) → Source Queried → Outcome → Type 0
IsPageListed way page d q outcome = (p : Plan) → IsServed way (purpose.Page page.paging) d q p outcome

-- the answers are those of these bytes over the database, asked with the page's words
pub record IsPageBegun (page : PageAsked) (d : DatabaseFile) (query : List ℕ) (begun : Begun) : Type 0 where
  pub database : begun.file ≡ d
  pub kept : IsAnswerKept d begun.kept
  pub same : AsksSame page.files page.paging.cap query begun.kept.query

-- ---- purposes

-- the question isn't asked for a plan or a page
abbrev pub IsWholePurpose : Purpose → Type 0
IsWholePurpose purpose.Plan = ⊥
IsWholePurpose (purpose.Page paging) = ⊥
IsWholePurpose _ = Unit {0}

-- the question isn't asked for a plan
abbrev pub IsAnswering : Purpose → Type 0
IsAnswering purpose.Plan = ⊥
IsAnswering _ = Unit {0}

-- a question, or the refusal alone
abbrev pub unasked_as : Result Question Unasked → Result Question Refusal
unasked_as (Ok question) = Ok question
unasked_as (Err unasked) = Err unasked.refusal
