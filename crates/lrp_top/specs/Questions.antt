-- The program's files, questions and purposes, against those that are due.
use Rattle.std.specs.Prelude.{◌≡◌, ◌≤ℤ◌, ℕ, pos, Bool, true, false, List, Option, Some, None, Result, Ok, Err, map}
use Rattle.std.specs.List.{AllByRecursion}
use Rattle.lrp_model.specs.Formulas.{Question as Queried, form_of, question_of}
use Rattle.lrp_model.specs.Names.{IsName}
use Rattle.lrp_model.specs.Pages.{IsPage}
use Rattle.lrp_model.specs.Rows.{Tuple}
use Rattle.lrp_model.specs.Sorts.{time_count}
use Rattle.lrp_model.specs.QueryReading.{IsQuery}
use Rattle.lrp_model.specs.RawQueries.{RawQuestion, raw_question_of}
use Rattle.lrp_model.specs.TestPoints.{points}
use Rattle.lrp_model.specs.Tuples.{in_head_order}
use Rattle.lrp_model.specs.declared.faults.QueryRead.{QueryRead}
use Rattle.lrp_model.specs.declared.faults.QueryRead.TheVariants as unread
use Rattle.lrp_model.specs.Steps.{Steps}
use Rattle.lrp_model.specs.declared.plans.Plan.{Plan}
use Rattle.lrp_model.specs.declared.plans.Planning.{Planning}
use Rattle.lrp_model.specs.declared.relations.Column.{Column}
use Rattle.lrp_model.specs.declared.relations.Relation.{Relation}
use Rattle.lrp_model.specs.declared.tuples.Tuple.{Tuple as ToldTuple}
use Rattle.lrp_model.specs.declared.tuples.Spot.{Spot}
use Rattle.lrp_plan_laws.specs.GuardedPlans.{plan_by}
use Rattle.lrp_plan_laws.specs.Settled.{IsSettled}
use Rattle.lrp_print.specs.Writable.{StepHasPeriods}
use Rattle.lrp_eval.specs.Planned.{IsPlanOf}
use Rattle.lrp_query.specs.Reading.{IsUnread}
use Rattle.lrp_tense.specs.Expanding.{expanded_question}
use Rattle.lrp_tense.specs.Laws.{KeepsMeaning}
use Rattle.lrp_tense.specs.Reading.{IsTenseUnread}
use Rattle.lrp_tense.specs.TenseReading.{IsTenseQuery}
use Rattle.lrp_words.specs.Commands.{after_text, asked_files}
use Rattle.lrp_words.specs.Ranges.{IsEnd}
use Rattle.lrp_words.specs.declared.command.QuestionFiles.{QuestionFiles}
use Rattle.lrp_answer_text.specs.Answering.{AreAnswerColumns}
use Rattle.lrp_top.specs.Due.{IsAnswered, IsDecided, IsExplained, IsListed, IsNumberTold, IsPlannedFor, IsRanged}
use Rattle.lrp_top.specs.Heads.{canon_need}
use Rattle.lrp_outputs.specs.Outcomes.{Outcome}
use Rattle.lrp_outputs.specs.Spots.{answer_tuple}
use Rattle.lrp_store.specs.Tables.{InAnswer}
use Rattle.lrp_answers.specs.declared.answer.Answer.{Answer}
use Rattle.lrp_answers.specs.Listing.{window_tuple}
use Rattle.lrp_answers.specs.Pauses.{paused_window}
use Rattle.lrp_answers.specs.declared.paused.Paused.{Paused}
use Rattle.lrp_top.specs.Seen.{ShelfSeen}
use Rattle.lrp_top.specs.Sources.{Source}
use Rattle.lrp_top.specs.declared.files.DatabaseFile.{DatabaseFile}
use Rattle.lrp_top.specs.declared.files.QueryFile.{QueryFile}
use Rattle.lrp_outputs.specs.declared.head.HeadNeed.{HeadNeed}
use Rattle.lrp_outputs.specs.declared.head.HeadNeed.TheVariants as needs
use Rattle.lrp_outputs.specs.declared.refusal.Refusal.{Refusal}
use Rattle.lrp_outputs.specs.declared.refusal.Refusal.TheVariants.{Depth, Formulas, Memory, Query}
use Rattle.lrp_top.specs.Written.{IsFaultyAs, IsOverIn, IsWideSaid}
use Rattle.lrp_top.specs.declared.language.QueryLanguage.{QueryLanguage}
use Rattle.lrp_top.specs.declared.language.QueryLanguage.TheVariants.{FirstOrder, Temporal, Wide}
use Rattle.lrp_wide.specs.Limits.{HasTooMany, IsTooDeep}
use Rattle.lrp_wide.specs.declared.checking.WideRead.{WideRead}
use Rattle.lrp_wide.specs.declared.checking.WideRead.TheVariants as wide
use Rattle.lrp_model.specs.declared.raw.RawQuery.{RawQuery}
use Rattle.lrp_words.specs.declared.purpose.Paging.{Paging}
use Rattle.lrp_words.specs.declared.purpose.Purpose.{Purpose}
use Rattle.lrp_words.specs.declared.purpose.Purpose.TheVariants as purpose
use Rattle.lrp_top.specs.declared.question.Question.{Question}

-- what a file says
abbrev pub database_source : DatabaseFile → Source (List Relation)
database_source file = record { bytes = file.bytes; says = file.relations }

abbrev pub query_source : QueryFile → Source Queried
query_source file = record { bytes = file.bytes; says = question_of file.query }

-- the refusal is want of memory
abbrev pub IsMemory : Refusal → Type 0
IsMemory Memory = Unit {0}
IsMemory _ = ⊥

-- these relations, unless memory ran out
abbrev pub IsDatabaseOrMemory : List Relation → Result DatabaseFile Refusal → Type 0
IsDatabaseOrMemory db (Ok file) = file.relations ≡ db
IsDatabaseOrMemory db (Err refusal) = IsMemory refusal

-- this query, unless memory ran out
abbrev pub IsQueriedOrMemory : Queried → Result QueryFile Refusal → Type 0
IsQueriedOrMemory q (Ok file) = question_of file.query ≡ q
IsQueriedOrMemory q (Err refusal) = IsMemory refusal

-- the database that was read, where one was
abbrev pub read_as : Result DatabaseFile Refusal → Result (Source (List Relation)) Refusal
read_as (Ok file) = Ok (database_source file)
read_as (Err refusal) = Err refusal

-- the query that was asked, where one was
abbrev pub asked_as : Result QueryFile Refusal → Result (Source Queried) Refusal
asked_as (Ok file) = Ok (query_source file)
asked_as (Err refusal) = Err refusal

-- the bytes are a query with temporal operators, and this is its expansion, which means the same
pub record IsExpansionOf (bytes : List ℕ) (raw : RawQuestion) : Type 0 where
  pub written : RawQuestion
  pub query : IsTenseQuery bytes written
  pub is : raw ≡ expanded_question written
  pub keeps : KeepsMeaning written raw

-- the bytes say this query with its places, in which temporal operators are written out where the flag allows them
abbrev pub IsSaidBy : Bool → List ℕ → RawQuestion → Type 0
IsSaidBy false = IsQuery
IsSaidBy true = IsExpansionOf

-- why the bytes say none
abbrev pub IsUnreadAs : Bool → List ℕ → QueryRead → Type 0
IsUnreadAs false = IsUnread
IsUnreadAs true = IsTenseUnread

-- the bytes say this query in a language, in which all that first-order logic hasn't is written out
abbrev pub IsSaidIn : QueryLanguage → List Relation → List ℕ → RawQuestion → Type 0
IsSaidIn FirstOrder db = IsSaidBy false
IsSaidIn Temporal db = IsSaidBy true
IsSaidIn (Wide civil) db = IsWideSaid civil db

-- why the bytes say none: their text has a fault, or in the wide language its own sorts have one, or the query is too large
abbrev pub IsUnreadIn : QueryLanguage → List Relation → List ℕ → Refusal → Type 0
IsUnreadIn language db bytes (Query fault) = IsFaultyAs language db bytes fault
IsUnreadIn language db bytes Formulas = IsOverIn HasTooMany language db bytes
IsUnreadIn language db bytes Depth = IsOverIn IsTooDeep language db bytes
IsUnreadIn language db bytes Memory = Unit {0}
IsUnreadIn language db bytes _ = ⊥

-- this query with its places, unless memory ran out
abbrev pub IsRawOrMemory : RawQuestion → Result RawQuery Refusal → Type 0
IsRawOrMemory raw (Ok made) = raw_question_of made ≡ raw
IsRawOrMemory raw (Err refusal) = IsMemory refusal

-- why a text says no query, as a refusal of the program
abbrev pub unread_refusal : QueryRead → Refusal
unread_refusal (unread.Fault fault) = Query fault
unread_refusal unread.Memory = Memory

-- a refusal of the wide language's expansion, as one of the program
abbrev pub refused_as : WideRead → Refusal
refused_as (wide.Fault fault) = Query fault
refused_as wide.Formulas = Formulas
refused_as wide.Depth = Depth
refused_as wide.Memory = Memory

-- what holds of a query that was read over a database: it is settled, the points of its tests have periods, and its head can be that of a relation that is read
pub record IsFit (db : List Relation) (file : QueryFile) : Type 0 where
  pub settled : IsSettled db (question_of file.query)
  pub points : AllByRecursion (λ at. pos 1 ≤ℤ at.period) (points (form_of file.query.body))
  pub head : AreAnswerColumns file.query.head.columns

-- the steps of the plan of a question's query by its way of planning
abbrev pub question_steps : Question → Steps
question_steps question = plan_by question.planning question.database.relations (question_of question.query.query)

-- what holds of a question: its plan is that of its query by its way of planning, which is sound and within the limits, and can be written; and its head can be that of a relation that is read
pub record IsReady (question : Question) : Type 0 where
  pub planned : IsPlanOf (question_steps question) question.database.relations (question_of question.query.query) question.plan
  pub writable : AllByRecursion StepHasPeriods question.plan.steps
  pub head : AreAnswerColumns question.query.query.head.columns

-- the question is made of this database, this query and this plan
abbrev pub IsMadeOf : Source (List Relation) → Source Queried → Plan → Result Question Refusal → Type 0
IsMadeOf d q p (Ok question) = (database_source question.database ≡ d) × (query_source question.query ≡ q) × (question.plan ≡ p)
IsMadeOf d q p (Err refusal) = ⊥

-- what is due after the plan of the query in these files, whose head is to have what is needed
abbrev pub IsAsked : {B : Type 0} → QuestionFiles → Option HeadNeed → ShelfSeen → (Source (List Relation) → Source Queried → Plan → Result B Refusal → Type 0) → Result B Refusal → Type 0
IsAsked files need seen = IsPlannedFor (asked_files files) need seen

-- the values in head order of a tuple that is told by its times and its texts, where one is
abbrev pub resumed_as : List Column → Result (Option ToldTuple) Refusal → Result (Option Tuple) Refusal
resumed_as head (Ok None) = Ok None
resumed_as head (Ok (Some tuple)) = Ok (Some (in_head_order head tuple.times tuple.texts))
resumed_as head (Err refusal) = Err refusal

-- that a step came to its end, without what it gave
abbrev pub done_as : {A : Type 0} → Result A Refusal → Result (Unit {0}) Refusal
done_as (Ok a) = Ok tt
done_as (Err refusal) = Err refusal

-- what is due for a purpose, where the query is planned by this way
abbrev pub IsServed : Planning → Purpose → Source (List Relation) → Source Queried → Plan → Outcome → Type 0
IsServed way purpose.Plan = IsExplained
IsServed way (purpose.Answer cap canon name) = IsAnswered way canon name.now cap
IsServed way (purpose.Witness cap dates) = IsDecided way dates cap
IsServed way (purpose.Page paging) = IsListed way paging.civil paging.from paging.to paging.limit (after_text paging.after) paging.json paging.cap
IsServed way (purpose.Count counting) = IsNumberTold way counting.from counting.to counting.cap
IsServed way (purpose.Ranges ranging) = IsRanged way ranging.civil ranging.from ranging.to ranging.limit ranging.json ranging.cap

-- what the head needs for a purpose, where it needs something
abbrev pub need_of : Purpose → Option HeadNeed
need_of (purpose.Answer cap canon name) = canon_need canon
need_of (purpose.Count counting) = Some needs.Count
need_of (purpose.Ranges ranging) = Some needs.Ranges
need_of _ = None

-- these spots, and the flag, are the page of an answer that is asked for after a tuple, where there is one
abbrev pub IsPageOf : Answer → Paging → Option Tuple → List Spot → Bool → Type 0
IsPageOf answer paging after spots more =
    IsPage (InAnswer answer.head.columns answer.domain answer.store) paging.from paging.to after paging.limit (map (answer_tuple answer) spots) more

-- the listing is one of the page's window, and stands at this position
pub record IsPausedAt (answer : Answer) (paging : Paging) (after : Option Tuple) (paused : Paused) : Type 0 where
  pub from_is : paused.from ≡ paging.from
  pub to_is : paused.to ≡ paging.to
  pub tuple : after ≡ Some (window_tuple (paused_window answer paused) paused.spot)

-- what holds of a purpose that words ask for: the name of its answers' relation is a name, and the ends of its window are ends
abbrev pub IsProperPurpose : Purpose → Type 0
IsProperPurpose (purpose.Answer cap canon name) = IsName name.now
IsProperPurpose (purpose.Page paging) = IsEnd paging.civil paging.from × IsEnd paging.civil paging.to
IsProperPurpose (purpose.Count counting) = IsEnd counting.civil counting.from × IsEnd counting.civil counting.to
IsProperPurpose (purpose.Ranges ranging) = IsEnd ranging.civil ranging.from × IsEnd ranging.civil ranging.to
IsProperPurpose _ = Unit {0}
