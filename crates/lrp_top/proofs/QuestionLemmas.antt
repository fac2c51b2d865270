-- Questions: what is refused first, and what is due after that.
use Rattle.std.proofs.Common.{◌≡◌, ℕ, ◌≤◌, Bool, List, Option, Result, Ok, Err, arith, refl, sym, ◌∙◌, subst}
use Rattle.lrp_io.specs.Causes.{Rose}
use Rattle.lrp_io.specs.declared.shelf.File.{File}
use Rattle.lrp_model.specs.Formulas.{Question as Queried}
use Rattle.lrp_model.specs.Texts.{Identifier}
use Rattle.lrp_model.specs.declared.plans.Plan.{Plan}
use Rattle.lrp_model.specs.declared.plans.Planning.{Planning}
use Rattle.lrp_model.specs.declared.relations.Relation.{Relation}
use Rattle.lrp_civil.specs.declared.values.CivilText.{CivilText}
use Rattle.lrp_words.specs.Commands.{FilesAsked}
use Rattle.lrp_top.specs.Due.{IsDatabaseRead, IsQueryReadOf, IsQueryRead, IsPlanned, IsPlannedAs, IsPlannedFor}
use Rattle.lrp_top.specs.Languages.{civil_by, language_by}
use Rattle.lrp_top.specs.declared.language.QueryLanguage.{QueryLanguage}
use Rattle.lrp_top.specs.Questions.{IsMadeOf, database_source, query_source}
use Rattle.lrp_top.specs.Seen.{ShelfSeen}
use Rattle.lrp_top.specs.Sources.{Source}
use Rattle.lrp_top.specs.Steps.{After, Then}
use Rattle.lrp_top.proofs.StepLemmas.{mapped, no_refusal, same_refusal}
use Rattle.lrp_outputs.specs.declared.head.HeadNeed.{HeadNeed}
use Rattle.lrp_outputs.specs.declared.refusal.Refusal.{Refusal}
use Rattle.lrp_outputs.specs.declared.refusal.Refusal.TheVariants.{Usage, ReadDatabase, LongDatabase, Database, ReadQuery, LongQuery, Query, Formulas, Depth, PeriodLimit, BoundLimit, TokenForm, TokenShape, TokenStale, Cells, Head, CanonRows, Watch, Memory}
use Rattle.lrp_top.specs.declared.question.Question.{Question}

-- a count that rose later rose
rose_later : (a b c : ℕ) → a ≤ b → Rose b c → Rose a c
rose_later a b c l r = omega arith

-- a database that was read is read, whatever is seen afterwards
pub read_before : (civil : Option CivilText) (middle seen : ShelfSeen) (name : Identifier) (database : Source (List Relation)) → IsDatabaseRead civil middle name (Ok database) → seen.files ≡ middle.files → IsDatabaseRead civil seen name (Ok database)
read_before civil middle seen name database h e = record { bytes = h.bytes; told = λ held f. h.told held (sym e ∙ f); is = h.is }

-- a file that was read in one way was read so in an equal one
pub read_in : {read asked : Option CivilText} {seen : ShelfSeen} {name : Identifier} {result : Result (Source (List Relation)) Refusal} → read ≡ asked → IsDatabaseRead read seen name result → IsDatabaseRead asked seen name result
read_in {read} {asked} {seen} {name} {result} e h = subst (λ (civil : Option CivilText). IsDatabaseRead civil seen name result) e h

pub asked_in : {read asked : QueryLanguage} (db : List Relation) {seen : ShelfSeen} {name : Identifier} {result : Result (Source Queried) Refusal} → read ≡ asked → IsQueryRead read db seen name result → IsQueryRead asked db seen name result
asked_in {read} {asked} db {seen} {name} {result} e h = subst (λ (language : QueryLanguage). IsQueryRead language db seen name result) e h

-- what is seen where other files are told and other counts of faults stood before
abbrev pub since : Option (List File) → (Identifier → ℕ) → ShelfSeen → ShelfSeen
since files before seen = record { files = files; faults_before = before; faults = seen.faults; given = seen.given; may_be = seen.may_be }

-- what holds from a later count on holds from an earlier one on
asked_of : (language : QueryLanguage) (db : List Relation) (seen : ShelfSeen) (files : Option (List File)) (before : Identifier → ℕ) (name : Identifier) (bytes : List ℕ) (result : Result (Source Queried) Refusal) → before name ≤ seen.faults_before name → IsQueryReadOf language db seen name bytes result → IsQueryReadOf language db (since files before seen) name bytes result
asked_of language db seen files before name bytes (Ok q) l h = h
asked_of language db seen files before name bytes (Err Usage) l h = h
asked_of language db seen files before name bytes (Err ReadDatabase) l h = h
asked_of language db seen files before name bytes (Err LongDatabase) l h = h
asked_of language db seen files before name bytes (Err (Database fault)) l h = h
asked_of language db seen files before name bytes (Err ReadQuery) l h = rose_later (before name) (seen.faults_before name) (seen.faults name) l h
asked_of language db seen files before name bytes (Err LongQuery) l h = (h.0, record { named = h.1.named; many = h.1.many })
asked_of language db seen files before name bytes (Err (Query fault)) l h = h
asked_of language db seen files before name bytes (Err Formulas) l h = h
asked_of language db seen files before name bytes (Err Depth) l h = h
asked_of language db seen files before name bytes (Err PeriodLimit) l h = h
asked_of language db seen files before name bytes (Err BoundLimit) l h = h
asked_of language db seen files before name bytes (Err TokenForm) l h = h
asked_of language db seen files before name bytes (Err TokenShape) l h = h
asked_of language db seen files before name bytes (Err TokenStale) l h = h
asked_of language db seen files before name bytes (Err (Cells cap step)) l h = h
asked_of language db seen files before name bytes (Err (Head unmet)) l h = h
asked_of language db seen files before name bytes (Err (CanonRows cap)) l h = h
asked_of language db seen files before name bytes (Err (Watch refusal)) l h = h
asked_of language db seen files before name bytes (Err Memory) l h = h

pub asked_since : (language : QueryLanguage) (db : List Relation) (seen : ShelfSeen) (files : Option (List File)) (before : Identifier → ℕ) (name : Identifier) (result : Result (Source Queried) Refusal) → IsQueryRead language db seen name result → files ≡ seen.files → before name ≤ seen.faults_before name → IsQueryRead language db (since files before seen) name result
asked_since language db seen files before name result h e l = record {
  bytes = h.bytes;
  told = λ held f. h.told held (sym e ∙ f);
  is = asked_of language db seen files before name h.bytes result l h.is;
}

-- where a database and a query over it were read, and the query was planned, the rest is due of them
pub question_read : {B : Type 0} (of : FilesAsked) (need : Option HeadNeed) (seen : ShelfSeen) (d : Source (List Relation)) (q : Source Queried) (p : Plan) (Next : Source (List Relation) → Source Queried → Plan → Result B Refusal → Type 0) (result : Result B Refusal)
    → IsDatabaseRead (civil_by of) seen of.database (Ok d) → IsQueryRead (language_by of) d.says seen of.query (Ok q) → IsPlannedAs of.way need d.says q.says (Ok p) → Next d q p result → IsPlannedFor of need seen Next result
question_read of need seen d q p Next result r a planned n = record { first = Ok d; is = r; next = record { first = Ok q; is = a; next = record { first = Ok p; is = planned; next = n } } }

-- a query that was not planned is refused after its database and its text
pub plan_refused : {B : Type 0} (of : FilesAsked) (need : Option HeadNeed) (seen : ShelfSeen) (d : Source (List Relation)) (q : Source Queried) (refusal : Refusal) (Next : Source (List Relation) → Source Queried → Plan → Result B Refusal → Type 0)
    → IsDatabaseRead (civil_by of) seen of.database (Ok d) → IsQueryRead (language_by of) d.says seen of.query (Ok q) → IsPlannedAs of.way need d.says q.says (Err refusal) → IsPlannedFor of need seen Next (Err refusal)
plan_refused of need seen d q refusal Next r a planned = record { first = Ok d; is = r; next = record { first = Ok q; is = a; next = record { first = Err refusal; is = planned; next = refl } } }

-- a refused query is refused after its database
pub query_refused : {B : Type 0} (of : FilesAsked) (need : Option HeadNeed) (seen : ShelfSeen) (d : Source (List Relation)) (refusal : Refusal) (Next : Source (List Relation) → Source Queried → Plan → Result B Refusal → Type 0)
    → IsDatabaseRead (civil_by of) seen of.database (Ok d) → IsQueryRead (language_by of) d.says seen of.query (Err refusal) → IsPlannedFor of need seen Next (Err refusal)
query_refused of need seen d refusal Next r a = record { first = Ok d; is = r; next = record { first = Err refusal; is = a; next = refl } }

-- what is due of a plan is due of the question that was made of it
pub question_due : {B : Type 0} (of : FilesAsked) (need : Option HeadNeed) (seen : ShelfSeen) (question : Question) (Next : Source (List Relation) → Source Queried → Plan → Result B Refusal → Type 0) (result : Result B Refusal)
    → IsPlannedFor of need seen IsMadeOf (Ok question) → Next (database_source question.database) (query_source question.query) question.plan result → IsPlannedFor of need seen Next result
question_due {B} of need seen question Next result h n =
    mapped (IsDatabaseRead (civil_by of) seen of.database) (λ d. Then (IsQueryRead (language_by of) d.says seen of.query) (λ q. Then (IsPlannedAs of.way need d.says q.says) (IsMadeOf d q))) (λ d. Then (IsQueryRead (language_by of) d.says seen of.query) (λ q. Then (IsPlannedAs of.way need d.says q.says) (Next d q))) (Ok question) result
    (λ d. mapped (IsQueryRead (language_by of) d.says seen of.query) (λ q. Then (IsPlannedAs of.way need d.says q.says) (IsMadeOf d q)) (λ q. Then (IsPlannedAs of.way need d.says q.says) (Next d q)) (Ok question) result
    (λ q. mapped (IsPlannedAs of.way need d.says q.says) (IsMadeOf d q) (Next d q) (Ok question) result
    (λ p made.
    let P : Source (List Relation) → Type 0 = λ r. Next r q p result in
    let Q : Source Queried → Type 0 = λ a. Next (database_source question.database) a p result in
    let R : Plan → Type 0 = λ a. Next (database_source question.database) (query_source question.query) a result in
    subst P made.0 (subst Q made.1 (subst R made.2 n)))
    (λ refusal e. no_refusal question refusal e))
    (λ refusal e. no_refusal question refusal e))
    (λ refusal e. no_refusal question refusal e) h

-- the refusal of a question is that of what is due
pub refusal_due : {B : Type 0} (of : FilesAsked) (need : Option HeadNeed) (seen : ShelfSeen) (refusal : Refusal) (Next : Source (List Relation) → Source Queried → Plan → Result B Refusal → Type 0) → IsPlannedFor of need seen IsMadeOf (Err refusal) → IsPlannedFor of need seen Next (Err refusal)
refusal_due {B} of need seen refusal Next h =
    mapped (IsDatabaseRead (civil_by of) seen of.database) (λ d. Then (IsQueryRead (language_by of) d.says seen of.query) (λ q. Then (IsPlannedAs of.way need d.says q.says) (IsMadeOf d q))) (λ d. Then (IsQueryRead (language_by of) d.says seen of.query) (λ q. Then (IsPlannedAs of.way need d.says q.says) (Next d q))) (Err refusal) (Err refusal)
    (λ d. mapped (IsQueryRead (language_by of) d.says seen of.query) (λ q. Then (IsPlannedAs of.way need d.says q.says) (IsMadeOf d q)) (λ q. Then (IsPlannedAs of.way need d.says q.says) (Next d q)) (Err refusal) (Err refusal)
    (λ q. mapped (IsPlannedAs of.way need d.says q.says) (IsMadeOf d q) (Next d q) (Err refusal) (Err refusal) (λ p none. absurd none) (λ other e. same_refusal refusal other e))
    (λ other e. same_refusal refusal other e))
    (λ other e. same_refusal refusal other e) h

-- what is due of a head that is to have what is needed, by another name of that
pub needed_same : {B : Type 0} (of : FilesAsked) (asked need : Option HeadNeed) (seen : ShelfSeen) (Next : Source (List Relation) → Source Queried → Plan → Result B Refusal → Type 0) (result : Result B Refusal) → asked ≡ need
    → IsPlannedFor of asked seen Next result → IsPlannedFor of need seen Next result
needed_same of asked need seen Next result e h = subst (λ flag. IsPlannedFor of flag seen Next result) e h

-- ---- plans whose head is looked at first

-- a plan stands after a head that fits
pub planned_as : (way : Planning) (need : Option HeadNeed) (db : List Relation) (q : Queried) (p : Plan) → IsPlannedAs way need db q (Ok p) → IsPlanned way db q (Ok p)
planned_as way need db q p h = after_fit h.first h.next
  where
    after_fit : (first : Result (Unit {0}) Refusal) → After first (λ fit. IsPlanned way db q) (Ok p) → IsPlanned way db q (Ok p)
    after_fit (Ok fit) next = next
    after_fit (Err refusal) next = no_refusal p refusal next
