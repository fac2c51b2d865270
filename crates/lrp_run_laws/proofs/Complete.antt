-- A lawful task comes to its output, or to want of memory.
use Rattle.std.proofs.Common.{◌≡◌, ◌≢◌, ◌⊎◌, ◌||◌, inl, inr, ◌<◌, ◌≤◌, ◌^◌, ◌∙◌, ℕ, ℤ, Bool, true, false, List, [], ◌∷◌, length, refl, sym, ap, subst, Option, Some, None, Ok, arith}
use Rattle.std.specs.List.{AllByRecursion}
use Rattle.lrp_io.specs.Causes.{Rose}
use Rattle.lrp_io.specs.declared.shelf.File.{File}
use Rattle.lrp_words.specs.Commands.{FilesAsked, FilesLinted, Task}
use Rattle.lrp_words.specs.Commands.Task.{ask, decide, list, count, ranges, explain, check, lint, watch, sample}
use Rattle.lrp_model.specs.Checked.{plain_question}
use Rattle.lrp_model.specs.DatabaseReading.{IsDatabase, IsDatabaseFault}
use Rattle.lrp_model.specs.Formulas.{Question}
use Rattle.lrp_model.specs.Rows.{Tuple}
use Rattle.lrp_model.specs.Periods.{period}
use Rattle.lrp_model.specs.Plans.{scaled_reach, IsWithinLimits}
use Rattle.lrp_model.specs.PrintedPages.{IsToken}
use Rattle.lrp_model.specs.QueryReading.{IsFile, IsFileFault, IsQuery, IsQueryFault}
use Rattle.lrp_model.specs.RawQueries.{RawFileView, RawQuestion}
use Rattle.lrp_model.specs.Sorting.{IsWellSorted, IsSortFault, query_standing}
use Rattle.lrp_model.specs.Texts.{Identifier, Text}
use Rattle.lrp_model.specs.declared.faults.DbFault.{DbFault}
use Rattle.lrp_model.specs.declared.faults.QueryFault.{QueryFault}
use Rattle.lrp_model.specs.declared.relations.Column.{Column}
use Rattle.lrp_model.specs.declared.relations.Relation.{Relation}
use Rattle.lrp_tense.specs.Expanding.{expanded_question}
use Rattle.lrp_tense.specs.TenseReading.{IsTenseQuery, IsTenseQueryFault}
use Rattle.lrp_edits.specs.EditReading.{IsEditsFault, SaysEdits}
use Rattle.lrp_edits.specs.declared.edits.Edit.{Edit}
use Rattle.lrp_kept.specs.KeptForm.{is_kept}
use Rattle.lrp_token.specs.Reading.{IsNoToken, HasOtherCounts}
use Rattle.lrp_run_laws.specs.Contents.{Contents, digest_of, Keeping, Linting, OverDatabase, OverEdits, OverNamed, OverQuery, Asking, SaysRelations, Watching, WhereFit, contents_of}
use Rattle.lrp_run_laws.specs.Tasks.{IsAnswerable, IsLawfulTask, IsResumable, IsTellable, HasFewCells, PassesLimit}
use Rattle.lrp_run_laws.specs.Runs.{IsRunOf, IsComplete, EndsComplete, Run, task_asked, HaveStoodStill}
use Rattle.lrp_run_laws.specs.Reasons.{HasManyRows, HasOtherHead, IsRefusedAfter, IsReason, HasReasonFor, HasTaskReason, AreNoEdits, IsNoDatabase, IsNoQuery, IsNoTokenOf, HasMany, IsAboveLimits, IsDatabaseRefused, IsQueryRefused, IsQueryAbove, IsQueryTooLarge, HasFailedFile, HasFailedOneOf, WhereNamed}
use Rattle.lrp_top.specs.Resuming.{IsResumed, IsFresh, IsTokenOf, IsStale, shape_of}
use Rattle.lrp_top.specs.Seen.{ShelfSeen, SinkSeen, HasFailed}
use Rattle.lrp_top.specs.Due.{query_named}
use Rattle.lrp_top.specs.Written.{IsPlacedAs, IsSortedAs, IsFaultyAs, IsOverIn, plain_by, query_plain}
use Rattle.lrp_outputs.specs.declared.head.HeadNeed.{HeadNeed}
use Rattle.lrp_outputs.specs.declared.head.HeadNeed.TheVariants as needs
use Rattle.lrp_outputs.specs.declared.head.HeadNeed.TheVariants.{Canon}
use Rattle.lrp_top.specs.Heads.{canon_need}
use Rattle.lrp_top.specs.Languages.{civil_by, language_by, usual_by, usual_language}
use Rattle.lrp_top.specs.declared.language.QueryLanguage.{QueryLanguage}
use Rattle.lrp_top.specs.declared.language.QueryLanguage.TheVariants.{FirstOrder, Temporal, Wide}
use Rattle.lrp_wide.specs.WideSorting.{IsFileSortFault, file_faults}
use Rattle.lrp_wide.specs.Limits.{HasTooMany, IsTooDeep}
use Rattle.lrp_wide.specs.Inlining.{expanded_file}
use Rattle.lrp_model.specs.Faults.{earliest}
use Rattle.lrp_civil.specs.declared.values.CivilText.{CivilText}
use Rattle.lrp_outputs.specs.declared.status.Status.{Status}
use Rattle.lrp_outputs.specs.declared.status.Status.TheVariants as status
use Rattle.lrp_run_laws.proofs.Canonical.{OneRowCount}
use Rattle.lrp_model.specs.declared.plans.Planning.{Planning}
use Rattle.lrp_plan_laws.specs.GuardedPlans.{plan_by}
use Rattle.lrp_run_laws.proofs.Cases.{IsFew}
use Rattle.lrp_run_laws.proofs.Causes.{run_cause}

-- ---- what is known of texts

-- a text is of one database at most, and then has no fault
pub record DatabaseTexts : Type 0 where
  pub one : (bytes : List ℕ) (db other : List Relation) → IsDatabase bytes db → IsDatabase bytes other → db ≡ other
  pub faultless : (bytes : List ℕ) (db : List Relation) (fault : DbFault) → IsDatabase bytes db → IsDatabaseFault bytes fault → ⊥

-- a text is of one query at most over a database, and then has no fault and isn't too large
pub record QueryTexts (language : QueryLanguage) : Type 0 where
  pub one : (db : List Relation) (bytes : List ℕ) (q other : Question) → IsSortedAs language db bytes q → IsSortedAs language db bytes other → q ≡ other
  pub faultless : (db : List Relation) (bytes : List ℕ) (q : Question) (fault : QueryFault) → IsSortedAs language db bytes q → IsFaultyAs language db bytes fault → ⊥
  pub few : (db : List Relation) (bytes : List ℕ) (q : Question) → IsSortedAs language db bytes q → IsOverIn HasTooMany language db bytes → ⊥
  pub shallow : (db : List Relation) (bytes : List ℕ) (q : Question) → IsSortedAs language db bytes q → IsOverIn IsTooDeep language db bytes → ⊥

-- with its places, a text is of one query at most over a database, and then has no fault
pub record PlacedTexts (tense : Bool) : Type 0 where
  pub one : (db : List Relation) (bytes : List ℕ) (raw other : RawQuestion) → IsPlacedAs tense db bytes raw → IsPlacedAs tense db bytes other → raw ≡ other
  pub faultless : (db : List Relation) (bytes : List ℕ) (raw : RawQuestion) (fault : QueryFault) → IsPlacedAs tense db bytes raw → IsFaultyAs (usual_language tense) db bytes fault → ⊥

-- a text is of one list of edits of a database at most, and then has no fault
pub record EditTexts : Type 0 where
  pub one : (bytes : List ℕ) (db : List Relation) (edits other : List Edit) → SaysEdits bytes db edits → SaysEdits bytes db other → edits ≡ other
  pub faultless : (bytes : List ℕ) (db : List Relation) (edits : List Edit) (fault : DbFault) → SaysEdits bytes db edits → IsEditsFault bytes db fault → ⊥

-- a text is of one token at most
abbrev pub OneToken : Type 0
OneToken = (token : List ℕ) (digest other : Option (List ℕ)) (times more : List ℤ) (texts further : List Text) → IsToken token digest times texts → IsToken token other more further → (digest ≡ other) × (times ≡ more) × (texts ≡ further)

-- a list without faults has no earliest one
no_earliest : (faults : List QueryFault) (fault : QueryFault) → faults ≡ [] → earliest query_standing faults ≡ Some fault → ⊥
no_earliest [] fault e h = cc
no_earliest (f ∷ fs) fault e h = cc

-- of queries without temporal operators
pub plain_texts : ((bytes : List ℕ) (q other : RawQuestion) → IsQuery bytes q → IsQuery bytes other → q ≡ other)
    → ((bytes : List ℕ) (q : RawQuestion) (fault : QueryFault) → IsQuery bytes q → IsQueryFault bytes fault → ⊥)
    → ((db : List Relation) (q : RawQuestion) (fault : QueryFault) → IsWellSorted db q → IsSortFault db q fault → ⊥)
    → QueryTexts FirstOrder
plain_texts one none sorted = record {
  one = λ db bytes q r a b. a.plain ∙ ap plain_question (one bytes a.raw b.raw a.query b.query) ∙ sym b.plain;
  faultless = λ db bytes q fault a f. elim f [
    | inl text ↦ none bytes a.raw fault a.query text
    | inr sorts ↦ sorted db a.raw fault a.sorted (subst (λ r. IsSortFault db r fault) (one bytes sorts.raw a.raw sorts.query a.query) sorts.unsorted)
  ];
  few = λ db bytes q a over. over;
  shallow = λ db bytes q a over. over;
}

-- of queries with temporal operators
pub tense_texts : ((bytes : List ℕ) (q other : RawQuestion) → IsTenseQuery bytes q → IsTenseQuery bytes other → q ≡ other)
    → ((bytes : List ℕ) (q : RawQuestion) (fault : QueryFault) → IsTenseQuery bytes q → IsTenseQueryFault bytes fault → ⊥)
    → ((db : List Relation) (q : RawQuestion) (fault : QueryFault) → IsWellSorted db q → IsSortFault db q fault → ⊥)
    → QueryTexts Temporal
tense_texts one none sorted = record {
  one = λ db bytes q r a b. a.plain ∙ ap (λ w. plain_question (expanded_question w)) (one bytes a.written b.written a.query b.query) ∙ sym b.plain;
  faultless = λ db bytes q fault a f. elim f [
    | inl text ↦ none bytes a.written fault a.query text
    | inr sorts ↦ sorted db (expanded_question a.written) fault a.sorted (subst (λ w. IsSortFault db (expanded_question w) fault) (one bytes sorts.written a.written sorts.query a.query) sorts.unsorted)
  ];
  few = λ db bytes q a over. over;
  shallow = λ db bytes q a over. over;
}

-- of queries with their places
pub plain_placed : ((bytes : List ℕ) (q other : RawQuestion) → IsQuery bytes q → IsQuery bytes other → q ≡ other)
    → ((bytes : List ℕ) (q : RawQuestion) (fault : QueryFault) → IsQuery bytes q → IsQueryFault bytes fault → ⊥)
    → ((db : List Relation) (q : RawQuestion) (fault : QueryFault) → IsWellSorted db q → IsSortFault db q fault → ⊥)
    → PlacedTexts false
plain_placed one none sorted = record {
  one = λ db bytes raw other a b. one bytes raw other a.query b.query;
  faultless = λ db bytes raw fault a f. elim f [
    | inl text ↦ none bytes raw fault a.query text
    | inr sorts ↦ sorted db raw fault a.sorted (subst (λ r. IsSortFault db r fault) (one bytes sorts.raw raw sorts.query a.query) sorts.unsorted)
  ];
}

pub tense_placed : ((bytes : List ℕ) (q other : RawQuestion) → IsTenseQuery bytes q → IsTenseQuery bytes other → q ≡ other)
    → ((bytes : List ℕ) (q : RawQuestion) (fault : QueryFault) → IsTenseQuery bytes q → IsTenseQueryFault bytes fault → ⊥)
    → ((db : List Relation) (q : RawQuestion) (fault : QueryFault) → IsWellSorted db q → IsSortFault db q fault → ⊥)
    → PlacedTexts true
tense_placed one none sorted = record {
  one = λ db bytes raw other a b. a.is ∙ ap expanded_question (one bytes a.written b.written a.query b.query) ∙ sym b.is;
  faultless = λ db bytes raw fault a f. elim f [
    | inl text ↦ none bytes a.written fault a.query text
    | inr sorts ↦ sorted db raw fault a.sorted (subst (λ r. IsSortFault db r fault) (ap expanded_question (one bytes sorts.written a.written sorts.query a.query) ∙ sym a.is) sorts.unsorted)
  ];
}

pub each_placed : PlacedTexts false → PlacedTexts true → (tense : Bool) → PlacedTexts tense
each_placed plain operators false = plain
each_placed plain operators true = operators

-- of files of the wide language
pub wide_texts : ((bytes : List ℕ) (f other : RawFileView) → IsFile bytes f → IsFile bytes other → f ≡ other)
    → ((bytes : List ℕ) (f : RawFileView) (fault : QueryFault) → IsFile bytes f → IsFileFault bytes fault → ⊥)
    → (civil : Bool) → QueryTexts (Wide civil)
wide_texts one none civil = record {
  one = λ db bytes q r a b. a.plain ∙ ap (λ f. plain_question (expanded_file db f)) (one (query_plain civil bytes) a.file b.file a.is b.is) ∙ sym b.plain;
  faultless = λ db bytes q fault a f. elim f [
    | inl text ↦ none (query_plain civil bytes) a.file fault a.is text
    | inr sorts ↦ no_earliest (file_faults db a.file) fault a.sorted (subst (λ w. IsFileSortFault db w fault) (one (query_plain civil bytes) sorts.file a.file sorts.is a.is) sorts.unsorted)
  ];
  few = λ db bytes q a over. a.small.few (subst (HasTooMany db) (one (query_plain civil bytes) over.file a.file over.is a.is) over.over);
  shallow = λ db bytes q a over. a.small.shallow (subst (IsTooDeep db) (one (query_plain civil bytes) over.file a.file over.is a.is) over.over).deep;
}

-- of each language
pub each_texts : QueryTexts FirstOrder → QueryTexts Temporal → ((civil : Bool) → QueryTexts (Wide civil)) → (language : QueryLanguage) → QueryTexts language
each_texts plain operators wide FirstOrder = plain
each_texts plain operators wide Temporal = operators
each_texts plain operators wide (Wide civil) = wide civil

-- ---- tokens

-- a token of these files with the head's counts is not refused
module _ (one : OneToken) (digest : List ℕ) (head : List Column) (text : Text) (tuple : Tuple) (is : IsTokenOf digest head text tuple) where
  pub not_formless : IsNoToken text → ⊥
  not_formless none = none is.digest is.times is.texts is.token

  pub not_other : HasOtherCounts text (shape_of head) → ⊥
  not_other h =
      let same = one text is.digest h.digest is.times h.times is.texts h.texts is.token h.token in
      h.other (record { of_times = ap length (sym same.1) ∙ is.counts.of_times; of_texts = ap length (sym same.2) ∙ is.counts.of_texts })

  pub not_stale : IsStale digest head text → ⊥
  not_stale h =
      let same = one text is.digest (Some h.digest) is.times h.times is.texts h.texts is.token h.token in
      h.other (subst (IsFresh digest) same.0 is.fresh)

-- ---- a task that asks a query

-- where a page begins, and no step has too many cells; and where a canonical answer is asked for, its head has one time column and its rows are not too many
pub record IsFree (way : Planning) (need : Option HeadNeed) (cap : Option ℕ) (after : Option Text) (digest : List ℕ) (db : List Relation) (q : Question) : Type 0 where
  pub tuple : Option Tuple
  pub resumed : IsResumed digest q.head after (Ok tuple)
  pub few : IsFew way cap db q
  pub head : HasOtherHead need q → ⊥
  pub rows : need ≡ Some Canon → HasManyRows cap db q → ⊥

-- it has no token that is refused
no_token : OneToken → (digest : List ℕ) (after : Option Text) (db : List Relation) (q : Question) (tuple : Option Tuple) → IsResumed digest q.head after (Ok tuple) → IsNoTokenOf digest after db q → ⊥
no_token one digest None db q tuple resumed h = h
no_token one digest (Some text) db q None resumed h = resumed
no_token one digest (Some text) db q (Some tuple) resumed h = elim h [
  | inl none ↦ not_formless one digest q.head text tuple resumed none
  | inr more ↦ elim more [
    | inl counts ↦ not_other one digest q.head text tuple resumed counts
    | inr old ↦ not_stale one digest q.head text tuple resumed old
  ]
]

-- nor a head that is
no_refused : OneToken → (way : Planning) (need : Option HeadNeed) (cap : Option ℕ) (digest : List ℕ) (after : Option Text) (db : List Relation) (q : Question) → IsFree way need cap after digest db q → IsRefusedAfter need digest after db q → ⊥
no_refused one way need cap digest after db q free h = elim h [
  | inl other ↦ free.head other
  | inr token ↦ no_token one digest after db q free.tuple free.resumed token
]

-- and no step with too many cells
no_many : (way : Planning) (cap : Option ℕ) (db : List Relation) (q : Question) → IsFew way cap db q → HasMany way cap db q → ⊥
no_many way None db q few h = h
no_many way (Some cap) db q few h = few h.0 h.1.is

no_above : (way : Planning) (need : Option HeadNeed) (cap : Option ℕ) (digest : List ℕ) (after : Option Text) (db : List Relation) (q : Question) → IsWithinLimits (plan_by way db q) db q → IsFree way need cap after digest db q → IsAboveLimits way need cap db q → ⊥
no_above way need cap digest after db q limits free h = elim h [
  | inl above ↦ let within : period db q.body ≤ 2 ^ 62 = limits.period in omega arith
  | inr more ↦ elim more [
    | inl above ↦ let within : scaled_reach (plan_by way db q) q ≤ 2 ^ 62 = limits.reach in omega arith
    | inr last ↦ elim last [
      | inl many ↦ no_many way cap db q free.few many
      | inr rows ↦ free.rows rows.0 rows.1
    ]
  ]
]

pub no_longer : (n : ℕ) → n ≤ 16777216 → 16777216 < n → ⊥
no_longer n short long = omega arith

module _ (texts : DatabaseTexts) (of : FilesAsked) (need : Option HeadNeed) (queries : QueryTexts (language_by of)) (one : OneToken) (files : Contents) (cap : Option ℕ) (after : Option Text) (free : Asking of files (IsFree of.way need cap after (digest_of files))) where
  same_database : (db : List Relation) → SaysRelations (civil_by of) files db → db ≡ free.db
  same_database db says = texts.one (plain_by (civil_by of) files.database) db free.db says.is free.says.is

  pub database_stands : IsNoDatabase files (civil_by of) → ⊥
  database_stands h = elim h [
    | inl long ↦ no_longer (length files.database) free.says.short long
    | inr fault ↦ texts.faultless (plain_by (civil_by of) files.database) free.db fault.0 free.says.is fault.1
  ]

  -- over the database that was read
  query_here : IsNoQuery files (language_by of) free.db ⊎ OverQuery (language_by of) files (IsRefusedAfter need (digest_of files) after) free.db → ⊥
  query_here h = elim h [
    | inl none ↦ elim none [
      | inl long ↦ no_longer (length files.query) free.holds.says.short long
      | inr fault ↦ queries.faultless free.db files.query free.holds.q fault.0 free.holds.says.is fault.1
    ]
    | inr over ↦
        let same : over.q ≡ free.holds.q = queries.one free.db files.query over.q free.holds.q over.says.is free.holds.says.is in
        no_refused one of.way need cap (digest_of files) after free.db free.holds.q free.holds.holds.holds (subst (λ q. IsRefusedAfter need (digest_of files) after free.db q) same over.holds)
  ]

  pub query_stands : OverDatabase (civil_by of) files (λ db. IsNoQuery files (language_by of) db ⊎ OverQuery (language_by of) files (IsRefusedAfter need (digest_of files) after) db) → ⊥
  query_stands h = query_here (subst (λ db. IsNoQuery files (language_by of) db ⊎ OverQuery (language_by of) files (IsRefusedAfter need (digest_of files) after) db) (same_database h.db h.says) h.holds)

  above_query : OverQuery (language_by of) files (IsAboveLimits of.way need cap) free.db → ⊥
  above_query over =
      let same : over.q ≡ free.holds.q = queries.one free.db files.query over.q free.holds.q over.says.is free.holds.says.is in
      no_above of.way need cap (digest_of files) after free.db free.holds.q free.holds.holds.limits free.holds.holds.holds (subst (λ q. IsAboveLimits of.way need cap free.db q) same over.holds)

  abbrev Above : List Relation → Type 0
  Above db = IsQueryTooLarge files (language_by of) db ⊎ OverQuery (language_by of) files (IsAboveLimits of.way need cap) db

  above_here : Above free.db → ⊥
  above_here h = elim h [
    | inl large ↦ elim large.1 [
      | inl over ↦ queries.few free.db files.query free.holds.q free.holds.says.is over
      | inr over ↦ queries.shallow free.db files.query free.holds.q free.holds.says.is over
    ]
    | inr over ↦ above_query over
  ]

  pub limits_stand : OverDatabase (civil_by of) files Above → ⊥
  limits_stand h = above_here (subst Above (same_database h.db h.says) h.holds)

-- ---- a watch

module _ (texts : DatabaseTexts) (queries : QueryTexts FirstOrder) (edits : EditTexts) (files : Contents) (cap : ℕ) (way : Planning) (auto : Bool) (free : Watching auto files (λ db q these. PassesLimit way cap db q these → ⊥)) where
  abbrev q : Question
  q = free.holds.q

  -- what holds of what the files say holds of this database and this query
  here : (Holds : List Relation → Question → Type 0) → OverDatabase None files (OverQuery FirstOrder files Holds) → Holds free.db q
  here Holds h =
      let db : h.db ≡ free.db = texts.one (plain_by None files.database) h.db free.db h.says.is free.says.is in
      let over : OverQuery FirstOrder files Holds free.db = subst (OverQuery FirstOrder files Holds) db h.holds in
      subst (Holds free.db) (queries.one free.db files.query over.q q over.says.is free.holds.says.is) over.holds

  no_edits : AreNoEdits files free.db q → ⊥
  no_edits h = elim h [
    | inl long ↦ no_longer (length files.edits) free.holds.holds.holds.says.short long
    | inr fault ↦ edits.faultless files.edits free.db free.holds.holds.holds.edits fault.0 free.holds.holds.holds.says.is fault.1
  ]

  pub watch_database : IsNoDatabase files None ⊎ Keeping auto files (AreNoEdits files) → ⊥
  watch_database h = elim h [
    | inl none ↦ elim none [
      | inl long ↦ no_longer (length files.database) free.says.short long
      | inr fault ↦ texts.faultless (plain_by None files.database) free.db fault.0 free.says.is fault.1
    ]
    | inr over ↦ no_edits (here (WhereFit auto (AreNoEdits files)) over).holds
  ]

  not_both : (is_kept q || auto) ≡ true → (is_kept q || auto) ≡ false → ⊥
  not_both kept other = cc

  query_of : IsNoQuery files FirstOrder free.db ⊎ OverQuery FirstOrder files (λ db q. (is_kept q || auto) ≡ false) free.db → ⊥
  query_of h = elim h [
    | inl none ↦ elim none [
      | inl long ↦ no_longer (length files.query) free.holds.says.short long
      | inr fault ↦ queries.faultless free.db files.query q fault.0 free.holds.says.is fault.1
    ]
    | inr over ↦ not_both free.holds.holds.fit (subst (λ r. (is_kept r || auto) ≡ false) (queries.one free.db files.query over.q q over.says.is free.holds.says.is) over.holds)
  ]

  pub watch_query : OverDatabase None files (λ db. IsNoQuery files FirstOrder db ⊎ OverQuery FirstOrder files (λ db q. (is_kept q || auto) ≡ false) db) → ⊥
  watch_query h =
      let db : h.db ≡ free.db = texts.one (plain_by None files.database) h.db free.db h.says.is free.says.is in
      query_of (subst (λ db. IsNoQuery files FirstOrder db ⊎ OverQuery FirstOrder files (λ db q. (is_kept q || auto) ≡ false) db) db h.holds)

  pub watch_limits : Watching auto files (PassesLimit way cap) → ⊥
  watch_limits h =
      let over : OverEdits files (PassesLimit way cap) free.db q = (here (WhereFit auto (OverEdits files (PassesLimit way cap))) h).holds in
      let same : over.edits ≡ free.holds.holds.holds.edits = edits.one files.edits free.db over.edits free.holds.holds.holds.edits over.says.is free.holds.holds.holds.says.is in
      free.holds.holds.holds.holds (subst (PassesLimit way cap free.db q) same over.holds)

-- ---- a database that is looked over

-- the named file did not fail
no_named_failed : (query : Option Identifier) (seen : ShelfSeen) → AllByRecursion (λ name. HasFailed seen name → ⊥) (query_named query) → WhereNamed query (HasFailed seen) → ⊥
no_named_failed None seen still h = h
no_named_failed (Some name) seen still h = still.0 h

-- nor is its query refused
no_named_query : (query : Option Identifier) (tense : Bool) (texts : PlacedTexts tense) (files : Contents) (db : List Relation) → OverNamed query tense files (λ db asked. Unit {0}) db → WhereNamed query (λ name. IsNoQuery files (usual_language tense) db) → ⊥
no_named_query None tense texts files db over h = h
no_named_query (Some name) tense texts files db over h = elim h [
  | inl long ↦ no_longer (length files.query) over.says.short long
  | inr fault ↦ texts.faultless db files.query over.raw fault.0 over.says.is fault.1
]

module _ (texts : DatabaseTexts) (of : FilesLinted) (placed : PlacedTexts of.tense) (files : Contents) (free : Linting of files (λ db asked. Unit {0})) where
  lint_database : IsNoDatabase files (usual_by of.civil) → ⊥
  lint_database h = elim h [
    | inl long ↦ no_longer (length files.database) free.says.short long
    | inr fault ↦ texts.faultless (plain_by (usual_by of.civil) files.database) free.db fault.0 free.says.is fault.1
  ]

  lint_query : OverDatabase (usual_by of.civil) files (λ db. WhereNamed of.query (λ name. IsNoQuery files (usual_language of.tense) db)) → ⊥
  lint_query h =
      no_named_query of.query of.tense placed files free.db free.holds
      (subst (λ db. WhereNamed of.query (λ name. IsNoQuery files (usual_language of.tense) db)) (texts.one (plain_by (usual_by of.civil) files.database) h.db free.db h.says.is free.says.is) h.holds)

-- ---- a run

module _ (task : Task) (files : Contents) (seen : ShelfSeen) (taken : SinkSeen) (no_database_for : IsDatabaseRefused files task → ⊥) (no_query_for : IsQueryRefused files task → ⊥) (none_above : IsQueryAbove files task → ⊥) (no_failed : HasFailedFile seen files task → ⊥) (no_rise : Rose taken.faults_before taken.faults → ⊥) where
  comes_so : (ended : Status) → IsReason ended task files seen taken → EndsComplete ended task files taken
  comes_so status.Done is = is
  comes_so status.Usage is = is
  comes_so status.Database is = no_database_for is
  comes_so status.Query is = no_query_for is
  comes_so status.Limit is = none_above is
  comes_so status.Read is = no_failed is
  comes_so status.Write is = no_rise is
  comes_so status.Memory is = is

-- what is free where nothing is needed of the head
free_plain : (way : Planning) (cap : Option ℕ) (after : Option Text) (digest : List ℕ) (db : List Relation) (q : Question) (tuple : Option Tuple) → IsResumed digest q.head after (Ok tuple) → IsFew way cap db q → IsFree way None cap after digest db q
free_plain way cap after digest db q tuple resumed few = record { tuple = tuple; resumed = resumed; few = few; head = λ other. other; rows = λ e. absurd (none_needed e) }
  where
    none_needed : ◌≡◌ {A = Option HeadNeed} None (Some Canon) → ⊥
    none_needed e = cc

-- and where the head has what is needed, which is no canonical answer
free_met : (need : HeadNeed) (way : Planning) (cap : ℕ) (digest : List ℕ) → (Some need ≡ Some Canon → ⊥) → (db : List Relation) (q : Question) → IsTellable need way cap db q → IsFree way (Some need) (Some cap) None digest db q
free_met need way cap digest other db q h = record { tuple = None; resumed = refl; few = h.few; head = λ unmet. unmet h.head; rows = λ e. absurd (other e) }

-- an answer has one number of rows, so where they are few they are not many
free_answer : OneRowCount → (way : Planning) (canon : Bool) (cap : ℕ) (digest : List ℕ) (db : List Relation) (q : Question) → IsAnswerable way canon cap db q → IsFree way (canon_need canon) (Some cap) None digest db q
free_answer one way false cap digest db q few = free_plain way (Some cap) None digest db q None refl few
free_answer one way true cap digest db q h = record {
  tuple = None;
  resumed = refl;
  few = h.0;
  head = λ other. other h.1;
  rows = λ asked many. not_more h.2.0 many.0 cap (one db q h.2.0 many.0 h.2.1 many.1) h.2.2 many.2;
}
  where
    not_more : (n m cap : ℕ) → n ≡ m → n ≤ cap → cap < m → ⊥
    not_more n m cap same few many = omega arith

-- what holds of the query of a task
asking : (of : FilesAsked) (files : Contents) (Holds Keeps : List Relation → Question → Type 0) → ((db : List Relation) (q : Question) → Holds db q → Keeps db q) → Asking of files Holds → Asking of files Keeps
asking of files Holds Keeps keep h = record {
  db = h.db;
  says = h.says;
  holds = record { q = h.holds.q; says = h.holds.says; holds = record { limits = h.holds.holds.limits; holds = keep h.db h.holds.q h.holds.holds.holds } };
}

no_canon : (need : HeadNeed) → need ≢ Canon → Some need ≡ Some Canon → ⊥
no_canon need other e = let same : need ≡ Canon = cc in other same

module _ (texts : DatabaseTexts) (queries : (language : QueryLanguage) → QueryTexts language) (placed : (tense : Bool) → PlacedTexts tense) (edits : EditTexts) (one : OneToken) (rows : OneRowCount) (files : Contents) (run : Run) where
  -- neither file failed
  none_failed : {civil : Option CivilText} {database query : Identifier} → (HasFailed run.seen database → ⊥) → (HasFailed run.seen query → ⊥) → HasFailedOneOf run.seen files civil database query → ⊥
  none_failed first second (inl failed) = first failed
  none_failed first second (inr over) = second over.holds

  asked_so : (task : Task) (of : FilesAsked) (need : Option HeadNeed) (cap : Option ℕ) (after : Option Text) → Asking of files (IsFree of.way need cap after (digest_of files)) → HaveStoodStill task run
      → (HasFailedFile run.seen files task → ⊥) → (IsDatabaseRefused files task → IsNoDatabase files (civil_by of)) → (IsQueryRefused files task → OverDatabase (civil_by of) files (λ db. IsNoQuery files (language_by of) db ⊎ OverQuery (language_by of) files (IsRefusedAfter need (digest_of files) after) db))
      → (IsQueryAbove files task → OverDatabase (civil_by of) files (λ db. IsQueryTooLarge files (language_by of) db ⊎ OverQuery (language_by of) files (IsAboveLimits of.way need cap) db))
      → (ended : Status) → IsReason ended task files run.seen run.taken → EndsComplete ended task files run.taken
  asked_so task of need cap after free still failed database query above =
      comes_so task files run.seen run.taken
      (λ h. database_stands texts of need (queries (language_by of)) one files cap after free (database h))
      (λ h. query_stands texts of need (queries (language_by of)) one files cap after free (query h))
      (λ h. limits_stand texts of need (queries (language_by of)) one files cap after free (above h))
      failed still.sink

  -- a run of a lawful task whose counts stood still is complete
  pub complete : (task : Task) → IsLawfulTask task files → HaveStoodStill task run → (ended : Status) → IsReason ended task files run.seen run.taken → EndsComplete ended task files run.taken
  complete (ask of cap canon called) lawful still =
      let free = asking of files (IsAnswerable of.way canon cap) (IsFree of.way (canon_need canon) (Some cap) None (digest_of files)) (free_answer rows of.way canon cap (digest_of files)) lawful in
      asked_so (ask of cap canon called) of (canon_need canon) (Some cap) None free still (none_failed still.files.0 still.files.1.0) (λ h. h) (λ h. h) (λ h. h)
  complete (decide of cap dates) lawful still =
      let free = asking of files (HasFewCells of.way cap) (IsFree of.way None (Some cap) None (digest_of files)) (λ db q few. free_plain of.way (Some cap) None (digest_of files) db q None refl few) lawful in
      asked_so (decide of cap dates) of None (Some cap) None free still (none_failed still.files.0 still.files.1.0) (λ h. h) (λ h. h) (λ h. h)
  complete (list of from to limit after json cap) lawful still =
      let free = asking of files (IsResumable of.way cap after (digest_of files)) (IsFree of.way None (Some cap) after (digest_of files)) (λ db q h. free_plain of.way (Some cap) after (digest_of files) db q h.tuple h.resumed h.few) lawful in
      asked_so (list of from to limit after json cap) of None (Some cap) after free still (none_failed still.files.0 still.files.1.0) (λ h. h) (λ h. h) (λ h. h)
  complete (count of from to cap) lawful still =
      let free = asking of files (IsTellable needs.Count of.way cap) (IsFree of.way (Some needs.Count) (Some cap) None (digest_of files)) (free_met needs.Count of.way cap (digest_of files) (no_canon needs.Count (λ e. cc))) lawful in
      asked_so (count of from to cap) of (Some needs.Count) (Some cap) None free still (none_failed still.files.0 still.files.1.0) (λ h. h) (λ h. h) (λ h. h)
  complete (ranges of from to limit json cap) lawful still =
      let free = asking of files (IsTellable needs.Ranges of.way cap) (IsFree of.way (Some needs.Ranges) (Some cap) None (digest_of files)) (free_met needs.Ranges of.way cap (digest_of files) (no_canon needs.Ranges (λ e. cc))) lawful in
      asked_so (ranges of from to limit json cap) of (Some needs.Ranges) (Some cap) None free still (none_failed still.files.0 still.files.1.0) (λ h. h) (λ h. h) (λ h. h)
  complete (explain of) lawful still =
      let free = asking of files (λ db q. Unit {0}) (IsFree of.way None None None (digest_of files)) (λ db q h. free_plain of.way None None (digest_of files) db q None refl tt) lawful in
      asked_so (explain of) of None None None free still (none_failed still.files.0 still.files.1.0) (λ h. h) (λ h. h) (λ h. h)
  complete (check database civil) lawful still =
      comes_so (check database civil) files run.seen run.taken
      (λ h. elim h [
        | inl long ↦ no_longer (length files.database) lawful.says.short long
        | inr fault ↦ texts.faultless (plain_by (usual_by civil) files.database) lawful.db fault.0 lawful.says.is fault.1
      ]) (λ h. h) (λ h. h)
      (λ h. still.files.0 h) still.sink
  complete (lint of) lawful still =
      comes_so (lint of) files run.seen run.taken
      (lint_database texts of (placed of.tense) files lawful) (lint_query texts of (placed of.tense) files lawful) (λ h. h)
      (λ failed. elim failed [
        | inl first ↦ still.files.0 first
        | inr over ↦ no_named_failed of.query run.seen still.files.1 over.holds
      ])
      still.sink
  complete (watch database query changes cap way auto) lawful still =
      comes_so (watch database query changes cap way auto) files run.seen run.taken
      (watch_database texts (queries FirstOrder) edits files cap way auto lawful) (watch_query texts (queries FirstOrder) edits files cap way auto lawful) (watch_limits texts (queries FirstOrder) edits files cap way auto lawful)
      (λ failed. elim failed [
        | inl first ↦ none_failed still.files.0 still.files.1.0 first
        | inr over ↦ still.files.1.1.0 over.holds.holds.holds
      ])
      still.sink
  complete (sample seed size) lawful still =
      comes_so (sample seed size) files run.seen run.taken (λ h. h) (λ h. h) (λ h. h) (λ h. h) still.sink

-- over a shelf that tells its files
pub complete_run : DatabaseTexts → ((language : QueryLanguage) → QueryTexts language) → ((tense : Bool) → PlacedTexts tense) → EditTexts → OneToken → OneRowCount → (task : Task) (held : List File) (run : Run) → IsRunOf task held run → IsLawfulTask task (contents_of held task) → HaveStoodStill task run → IsComplete task (contents_of held task) run
complete_run texts queries placed edits one rows task held run is lawful still =
    let cause : HasTaskReason task run = subst (λ t. HasReasonFor t run) is.spelled (run_cause (task_asked run) run is.may_happen.outcome is.may_happen.due is.may_happen.ends) in
    complete texts queries placed edits one rows (contents_of held task) run task lawful still run.ended (subst (λ files. IsReason run.ended task files run.seen run.taken) (cause.told held is.told) cause.is)
