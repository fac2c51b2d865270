-- Pages of a database that is kept.
use Rattle.std.proofs.Common.{◌≡◌, ℕ, List, [], ◌∷◌, Option, Some, None, Result, Ok, Err, refl, sym, subst}
use Rattle.std.specs.Prelude.{IfErr, IfOk, IfSome}
use Rattle.std.specs.List.{AllByRecursion}
use Rattle.lrp_model.specs.Formulas.{Question as Queried, question_of}
use Rattle.lrp_model.specs.Rows.{Tuple}
use Rattle.lrp_model.specs.Texts.{Identifier}
use Rattle.lrp_model.specs.declared.plans.Planning.{Planning}
use Rattle.lrp_model.specs.declared.relations.Column.{Column}
use Rattle.lrp_model.specs.declared.relations.Relation.{Relation}
use Rattle.lrp_model.specs.declared.tuples.Tuple.{Tuple as ToldTuple}
use Rattle.lrp_outputs.specs.Outcomes.{Outcome}
use Rattle.lrp_outputs.specs.declared.refusal.Refusal.{Refusal}
use Rattle.lrp_outputs.specs.declared.status.Status.{Status}
use Rattle.lrp_words.specs.Commands.{after_text, asked_files}
use Rattle.lrp_top.specs.Due.{IsCounted, IsLengthOrMemory, IsOutput, IsPlannedAs}
use Rattle.lrp_top.specs.Keeping.{AsksSame, IsAnswerKept, IsFileRead, IsPageDue, IsPageTold, IsQuerySaid, IsToldOf, civil_asked, language_asked}
use Rattle.lrp_top.specs.Questions.{IsServed, database_source, query_source, resumed_as}
use Rattle.lrp_top.specs.Resuming.{IsResumed}
use Rattle.lrp_top.specs.Seen.{IsOverrun, ShelfSeen, SinkSeen}
use Rattle.lrp_top.specs.Steps.{After, Then}
use Rattle.lrp_top.specs.Telling.{TellsPage}
use Rattle.lrp_words.specs.declared.purpose.Asked.{Asked}
use Rattle.lrp_top.specs.declared.files.DatabaseFile.{DatabaseFile}
use Rattle.lrp_top.specs.declared.keeping.KeptAnswer.{KeptAnswer}
use Rattle.lrp_top.specs.declared.keeping.KeptQuery.{KeptQuery}
use Rattle.lrp_top.specs.declared.language.QueryLanguage.{QueryLanguage}
use Rattle.lrp_top.specs.declared.paging.PageAsked.{PageAsked}
use Rattle.lrp_words.specs.declared.purpose.Purpose.{Purpose}
use Rattle.lrp_words.specs.declared.purpose.Purpose.TheVariants as purpose
use Rattle.lrp_top.proofs.KeepingLemmas.{again_said, kept_read}
use Rattle.lrp_top.proofs.QuestionLemmas.{question_read}

-- ---- results

-- what follows from what is so of a refusal is so of it
pub if_err : {A E : Type 0} {P Q : E → Type 0} (r : Result A E) → ((e : E) → P e → Q e) → IfErr r P → IfErr r Q
if_err (Ok a) f h = tt
if_err (Err e) f h = f e h

pub if_some : {A : Type 0} {P Q : A → Type 0} (o : Option A) → ((a : A) → P a → Q a) → IfSome o P → IfSome o Q
if_some None f h = tt
if_some (Some a) f h = f a h

-- what is so of something that is there
pub some_is : {A : Type 0} (P : A → Type 0) (o : Option A) (a : A) → o ≡ Some a → IfSome o P → P a
some_is P o a e h = subst (λ p. IfSome p P) e h

-- where no file is overrun, no length is told
pub no_overruns : (seen : ShelfSeen) (outcome : Outcome) (names : List Identifier) → ((name : Identifier) → IsOverrun seen name → ⊥) → AllByRecursion (λ name. IsOverrun seen name → IsLengthOrMemory outcome) names
no_overruns seen outcome [] none = tt
no_overruns seen outcome (name ∷ names) none = ((λ over. absurd (none name over)), no_overruns seen outcome names none)

-- ---- steps

-- a step between is passed
counted_after : {A : Type 0} (first : Result A Refusal) (Counted : Result (Unit {0}) Refusal → Type 0) (Next : A → Outcome → Type 0) (outcome : Outcome) → Counted (Ok tt) → After first Next outcome → After first (λ a. Then Counted (λ done. Next a)) outcome
counted_after (Ok a) C N outcome c h = record { first = Ok tt; is = c; next = h }
counted_after (Err refusal) C N outcome c h = h

-- what is refused wherever a page begins is refused after that
pub after_any : (head : List Column) (o : Option ToldTuple) (Next : Option Tuple → Outcome → Type 0) (outcome : Outcome) → ((t : Option Tuple) → Next t outcome) → After (resumed_as head (Ok o)) Next outcome
after_any head None N outcome h = h None
after_any head (Some t) N outcome h = h _

-- ---- what is told

-- what is told of files that have the same bytes
pub page_told : (page : PageAsked) {one other query same : List ℕ} {taken : SinkSeen} {ended : Status} → one ≡ other → query ≡ same → IsPageTold page one query taken ended → IsPageTold page other same taken ended
page_told page {one} {other} {query} {same} {taken} {ended} e f told =
    subst (λ (bytes : List ℕ). IsPageTold page other bytes taken ended) f (subst (λ (bytes : List ℕ). IsPageTold page bytes query taken ended) e told)

-- what is told for a purpose that is the question's
pub asked_told : (asked : Asked) (p : Purpose) {database query : List ℕ} {taken : SinkSeen} {ended : Status} → asked.purpose ≡ p → IsToldOf (record { files = asked.files; purpose = p }) database query taken ended → IsToldOf asked database query taken ended
asked_told asked p {database} {query} {taken} {ended} e told =
    subst (λ (x : Purpose). IsToldOf (record { files = asked.files; purpose = x }) database query taken ended) (sym e) told

-- ---- answers that are kept

-- the query that is kept was asked with its own bytes
pub same_own : (page : PageAsked) (bytes : List ℕ) (kept : KeptQuery) → AsksSame page.files page.paging.cap bytes kept → AsksSame page.files page.paging.cap kept.file.bytes kept
same_own page bytes kept same = record { language = same.language; planning = same.planning; cap_is = same.cap_is; bytes_are = refl }

-- a page of the answers that are kept is due
module _ (page : PageAsked) (d : DatabaseFile) (kept : KeptAnswer) (read : IsFileRead (civil_asked page.files) d) (is : IsAnswerKept d kept) (same : AsksSame page.files page.paging.cap kept.query.file.bytes kept.query) where
  abbrev db : List Relation
  db = d.relations

  abbrev q : Queried
  q = question_of kept.query.file.query

  abbrev head : List Column
  head = kept.query.file.query.head.columns

  abbrev pub Next : List ℕ → Option Tuple → Outcome → Type 0
  Next digest tuple = IsOutput (TellsPage db q page.paging.from page.paging.to tuple page.paging.limit page.paging.civil page.paging.json digest)

  pub page_due : (first : Result (Option Tuple) Refusal) (outcome : Outcome) → IsResumed kept.query.files head (after_text page.paging.after) first → After first (Next kept.query.files) outcome → IsPageDue page d.bytes kept.query.file.bytes outcome
  page_due first outcome resumed next =
      let counted : IsCounted page.files.planning db q page.paging.cap (Ok tt) = subst (λ cap. IsCounted page.files.planning db q cap (Ok tt)) same.cap_is (subst (λ (way : Planning). IsCounted way db q kept.query.cap (Ok tt)) same.planning is.counted) in
      let planned : IsPlannedAs page.files.planning None db q (Ok is.plan) = subst (λ (way : Planning). IsPlannedAs way None db q (Ok is.plan)) same.planning is.planned in
      let said : IsQuerySaid (language_asked page.files) db kept.query.file = subst (λ (language : QueryLanguage). IsQuerySaid language db kept.query.file) same.language is.said in
      λ seen database query. question_read (asked_files page.files) None seen (database_source d) (query_source kept.query.file) is.plan (IsServed page.files.planning (purpose.Page page.paging)) outcome
      (kept_read (civil_asked page.files) d seen page.files.database.now read database)
      (again_said (language_asked page.files) db seen page.files.query.now kept.query.file said query)
      planned
      (record {
        first = first;
        is = subst (λ digest. IsResumed digest head (after_text page.paging.after) first) is.digest resumed;
        next = counted_after first (IsCounted page.files.planning db q page.paging.cap) (Next _) outcome counted (subst (λ digest. After first (Next digest) outcome) is.digest next);
      })
