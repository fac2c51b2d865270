-- Why a run ended as it did: from each case of what was due.
use Rattle.std.proofs.Common.{◌≡◌, ◌≢◌, ◌⊎◌, inl, inr, ℕ, Bool, true, false, List, [], refl, sym, ap, ap₂, subst, ◌∙◌, Option, Some, None, Result, Ok, Err}
use Rattle.lrp_io.specs.Bytes.{appended}
use Rattle.lrp_io.specs.declared.shelf.File.{File}
use Rattle.lrp_words.specs.Commands.{FilesAsked, Task}
use Rattle.lrp_words.specs.Commands.Task.{ask, decide, list, count, ranges, explain, check, lint, watch, sample}
use Rattle.lrp_model.specs.AnswerTexts.{IsAnswerText}
use Rattle.lrp_model.specs.Formulas.{Question}
use Rattle.lrp_model.specs.Rows.{Tuple}
use Rattle.lrp_model.specs.Plans.{IsPlan}
use Rattle.lrp_model.specs.Texts.{Identifier}
use Rattle.lrp_model.specs.declared.plans.Plan.{Plan}
use Rattle.lrp_plan_laws.specs.GuardedPlans.{plan_by}
use Rattle.lrp_model.specs.declared.relations.Relation.{Relation}
use Rattle.lrp_top.specs.Due.{IsDueOf, IsDueFor, IsDatabaseReadOf, IsOutput, IsAnswered, IsDecided, IsExplained, IsListed, IsNumberTold, IsRanged}
use Rattle.lrp_run_laws.specs.Contents.{Contents, contents_at, contents_of, digest_of, OverDatabase, OverQuery, Asking, SaysRelations, two_files}
use Rattle.lrp_run_laws.specs.Tasks.{IsOutputOf, TellsPlanOf, TellsPageAfter}
use Rattle.lrp_run_laws.specs.Runs.{Run, WroteAll}
use Rattle.lrp_run_laws.specs.Reasons.{HasOtherHead, IsRefusedAfter, HasMany, HasManyRows, IsNoDatabase, IsNoQuery, IsNoTokenOf, IsAboveLimits, IsDatabaseRefused, IsQueryRefused, IsQueryAbove, IsQueryTooLarge, HasFailedFile, HasFailedOneOf, IsReason, HasReasonFor, HasTaskReason, IsUsage}
use Rattle.lrp_top.specs.Canonical.{IsCanonicalText}
use Rattle.lrp_outputs.specs.Outcomes.{Outcome, refused_with, status_of, written_of, line_of}
use Rattle.lrp_top.specs.Ends.{Ends}
use Rattle.lrp_top.specs.Resuming.{IsResumed}
use Rattle.lrp_top.specs.Sampled.{TellsSample}
use Rattle.lrp_top.specs.Seen.{ShelfSeen, SinkSeen, AreBytesOf}
use Rattle.lrp_top.specs.Sources.{Source}
use Rattle.lrp_top.specs.Steps.{After}
use Rattle.lrp_top.specs.Telling.{TellsNumber, TellsPage, TellsPlan, TellsRanges, TellsRelations, TellsWitness}
use Rattle.lrp_top.specs.Languages.{civil_by, language_by, usual_by}
use Rattle.lrp_outputs.specs.declared.head.HeadNeed.TheVariants as needs
use Rattle.lrp_outputs.specs.declared.head.HeadNeed.TheVariants.{Canon}
use Rattle.lrp_outputs.specs.declared.refusal.Refusal.{Refusal}
use Rattle.lrp_outputs.specs.declared.refusal.Refusal.TheVariants.{Usage, ReadDatabase, LongDatabase, Database, Memory}
use Rattle.lrp_outputs.specs.declared.status.Status.{Status}
use Rattle.lrp_outputs.specs.declared.status.Status.TheVariants as status
use Rattle.lrp_run_laws.proofs.Explained.{Explained, OutcomeFor, is_memory}
use Rattle.lrp_run_laws.proofs.LintCauses.{lint_explained}
use Rattle.lrp_run_laws.proofs.WatchCauses.{watch_explained}
use Rattle.lrp_run_laws.proofs.Cases.{Asked, Reached, Telling, output, form, other, stale, many, rows, want, Case, unread_database, long_database, no_database, unread_query, long_query, no_query, no_head, too_many, too_deep, above_period, above_bound, planned, wanted, reached, answer_goes_on, canonical_goes_on, decide_goes_on, explain_goes_on, list_goes_on, number_goes_on, ranges_go_on}

-- ---- a task that asks a query

-- the query's refusals, and its limits
abbrev RefusedFor : Asked → Contents → Type 0
RefusedFor a files = OverDatabase (civil_by a.of) files (λ db. IsNoQuery files (language_by a.of) db ⊎ OverQuery (language_by a.of) files (IsRefusedAfter a.need (digest_of files) a.after) db)

abbrev AboveFor : Asked → Contents → Type 0
AboveFor a files = OverDatabase (civil_by a.of) files (λ db. IsQueryTooLarge files (language_by a.of) db ⊎ OverQuery (language_by a.of) files (IsAboveLimits a.of.way a.need a.cap) db)

-- why the task is refused with a status
abbrev RefusalFor : Asked → Contents → ShelfSeen → Status → Type 0
RefusalFor a files seen status.Database = IsNoDatabase files (civil_by a.of)
RefusalFor a files seen status.Query = RefusedFor a files
RefusalFor a files seen status.Limit = AboveFor a files
RefusalFor a files seen status.Read = HasFailedOneOf seen files (civil_by a.of) a.of.database a.of.query
RefusalFor a files seen status.Memory = Unit {0}
RefusalFor a files seen _ = ⊥

-- what is told as an output
abbrev Shown : Type 1
Shown = List ℕ → List ℕ → List Relation → Question → Type 0

-- what holds of an outcome: an output is told, or there is a cause
abbrev CauseFor : Asked → Contents → ShelfSeen → Shown → Outcome → Type 0
CauseFor a files seen Shows (Ok bytes) = Asking a.of files (Shows (digest_of files) bytes)
CauseFor a files seen Shows (Err refusal) = RefusalFor a files seen (refused_with refusal)

-- what is told of the query is what is shown
abbrev Show : Asked → Telling → Shown → Type 0
Show a Tells Shows = (digest : List ℕ) (p : Plan) (tuple : Option Tuple) (db : List Relation) (q : Question) (bytes : List ℕ) → IsPlan p (plan_by a.of.way db q) db q → IsResumed digest q.head a.after (Ok tuple) → Tells digest p tuple db q bytes → Shows digest bytes db q

module _ (seen : ShelfSeen) (a : Asked) (files : Contents) (Tells : Telling) (Shows : Shown) (show : Show a Tells Shows) where
  cause_of : (outcome : Outcome) → Case seen a files Tells outcome → CauseFor a files seen Shows outcome
  cause_of _ (unread_database failed) = inl failed
  cause_of _ (long_database long) = inl long
  cause_of _ (no_database fault short is) = inr (fault, is)
  cause_of _ (unread_query db says failed) = inr (record { db = db; says = says; holds = failed })
  cause_of _ (long_query db says long) = record { db = db; says = says; holds = inl (inl long) }
  cause_of _ (no_query db says fault short is) = record { db = db; says = says; holds = inl (inr (fault, is)) }
  cause_of _ (too_many db says short over) = record { db = db; says = says; holds = inl (short, inl over) }
  cause_of _ (too_deep db says short over) = record { db = db; says = says; holds = inl (short, inr over) }
  cause_of _ (no_head db says q said unmet asked unfit) =
      record { db = db; says = says; holds = inr (record { q = q; says = said; holds = inl (subst (λ need. HasOtherHead need q) (sym asked) unfit) }) }
  cause_of _ (above_period db says q said above) = record { db = db; says = says; holds = inr (record { q = q; says = said; holds = inl above }) }
  cause_of _ (above_bound db says q said period above) = record { db = db; says = says; holds = inr (record { q = q; says = said; holds = inr (inl above) }) }
  cause_of _ (planned db says q said limits p plan _ (output tuple resumed few bytes told)) =
      record { db = db; says = says; holds = record { q = q; says = said; holds = record { limits = limits; holds = show (digest_of files) p tuple db q bytes plan resumed told } } }
  cause_of _ (planned db says q said limits p plan _ (form text is none)) =
      record { db = db; says = says; holds = inr (record { q = q; says = said; holds = inr (subst (λ t. IsNoTokenOf (digest_of files) t db q) (sym is) (inl none)) }) }
  cause_of _ (planned db says q said limits p plan _ (other text is counts)) =
      record { db = db; says = says; holds = inr (record { q = q; says = said; holds = inr (subst (λ t. IsNoTokenOf (digest_of files) t db q) (sym is) (inr (inl counts))) }) }
  cause_of _ (planned db says q said limits p plan _ (stale text is old)) =
      record { db = db; says = says; holds = inr (record { q = q; says = said; holds = inr (subst (λ t. IsNoTokenOf (digest_of files) t db q) (sym is) (inr (inr old))) }) }
  cause_of _ (planned db says q said limits p plan _ (many cells step is tuple resumed first)) =
      record { db = db; says = says; holds = inr (record { q = q; says = said; holds = inr (inr (inl (subst (λ c. HasMany a.of.way c db q) (sym is) (step, first)))) }) }
  cause_of _ (planned db says q said limits p plan _ (rows most n asked is counted more)) =
      record { db = db; says = says; holds = inr (record { q = q; says = said; holds = inr (inr (inr (asked, subst (λ c. HasManyRows c db q) (sym is) (n, counted, more)))) }) }
  cause_of _ (planned db says q said limits p plan _ want) = tt
  cause_of _ wanted = tt

-- ---- a task

-- the bytes of two files
both_files : (seen : ShelfSeen) (files : Contents) (of : FilesAsked) → files.edits ≡ [] → AreBytesOf seen of.database files.database → AreBytesOf seen of.query files.query
    → (held : List File) → seen.files ≡ Some held → files ≡ contents_at held of
both_files seen files of none d q held e = ap (with_edits files) none ∙ ap₂ two_files (d held e) (q held e)
  where
    with_edits : Contents → List ℕ → Contents
    with_edits files edits = record { database = files.database; query = files.query; edits = edits }

-- the causes of a task that asks a query
module _ (a : Asked) (files : Contents) (seen : ShelfSeen) (task : Task) (no_database_for : IsNoDatabase files (civil_by a.of) → IsDatabaseRefused files task) (refused : RefusedFor a files → IsQueryRefused files task) (above : AboveFor a files → IsQueryAbove files task) (failed : HasFailedOneOf seen files (civil_by a.of) a.of.database a.of.query → HasFailedFile seen files task) where
  cause_for : (s : Status) → RefusalFor a files seen s → (taken : SinkSeen) → (s ≡ status.Memory → WroteAll taken (line_of Memory)) → IsReason s task files seen taken
  cause_for status.Database h taken line = no_database_for h
  cause_for status.Query h taken line = refused h
  cause_for status.Limit h taken line = above h
  cause_for status.Read h taken line = failed h
  cause_for status.Memory h taken line = line refl
  cause_for status.Done h taken line = absurd h
  cause_for status.Usage h taken line = absurd h
  cause_for status.Write h taken line = absurd h

  outcome_for : (Shows : Shown) → ((bytes : List ℕ) → Asking a.of files (Shows (digest_of files) bytes) → IsOutputOf task files bytes) → (outcome : Outcome) → CauseFor a files seen Shows outcome → OutcomeFor task seen files outcome
  outcome_for Shows shows (Ok bytes) h = shows bytes h
  outcome_for Shows shows (Err refusal) h = λ taken line. cause_for (refused_with refusal) h taken (λ e. subst (λ r. WroteAll taken (line_of r)) (is_memory refusal e) line)

-- `check`
check_written : (civil : Bool) (files : Contents) (db : List Relation) → SaysRelations (usual_by civil) files db → (database : Identifier) (seen : ShelfSeen) → (outcome : Outcome) → IsOutput (TellsRelations db) outcome → OutcomeFor (check database civil) seen files outcome
check_written civil files db says database seen (Ok bytes) told = record { db = db; says = says; holds = told }
check_written civil files db says database seen (Err Memory) told = λ taken line. line
check_written civil files db says database seen (Err _) told = absurd told

check_read : (civil : Bool) (database : Identifier) (seen : ShelfSeen) (outcome : Outcome) (bytes : List ℕ) (d : Result (Source (List Relation)) Refusal) → IsDatabaseReadOf (usual_by civil) seen database bytes d → After d (λ d. IsOutput (TellsRelations d.says)) outcome
    → OutcomeFor (check database civil) seen (two_files bytes []) outcome
check_read civil database seen outcome bytes (Ok d) is next = check_written civil (two_files bytes []) d.says (record { short = is.1; is = is.2 }) database seen outcome next
check_read civil database seen outcome bytes (Err ReadDatabase) is next = subst (OutcomeFor (check database civil) seen (two_files bytes [])) (sym next) (λ taken line. is)
check_read civil database seen outcome bytes (Err LongDatabase) is next = subst (OutcomeFor (check database civil) seen (two_files bytes [])) (sym next) (λ taken line. inl is.0)
check_read civil database seen outcome bytes (Err (Database fault)) is next = subst (OutcomeFor (check database civil) seen (two_files bytes [])) (sym next) (λ taken line. inr (fault, is.1))
check_read civil database seen outcome bytes (Err Memory) is next = subst (OutcomeFor (check database civil) seen (two_files bytes [])) (sym next) (λ taken line. line)
check_read civil database seen outcome bytes (Err _) is next = absurd is

-- `sample`
sample_written : (seed size : ℕ) (seen : ShelfSeen) (files : Contents) (outcome : Outcome) → IsOutput (TellsSample seed size) outcome → OutcomeFor (sample seed size) seen files outcome
sample_written seed size seen files (Ok bytes) told = told
sample_written seed size seen files (Err Memory) told = λ taken line. line
sample_written seed size seen files (Err _) told = absurd told

-- a task that asks a query
module _ (a : Asked) (seen : ShelfSeen) (task : Task) (no_database_for : (files : Contents) → IsNoDatabase files (civil_by a.of) → IsDatabaseRefused files task) (refused : (files : Contents) → RefusedFor a files → IsQueryRefused files task) (above : (files : Contents) → AboveFor a files → IsQueryAbove files task)
    (failed : (files : Contents) → HasFailedOneOf seen files (civil_by a.of) a.of.database a.of.query → HasFailedFile seen files task) (named : (held : List File) → contents_at held a.of ≡ contents_of held task) where
  asked_explained : (Tells : Telling) (Shows : Shown) → Show a Tells Shows → ((files : Contents) (bytes : List ℕ) → Asking a.of files (Shows (digest_of files) bytes) → IsOutputOf task files bytes) → (outcome : Outcome) → Reached seen a Tells outcome → Explained task seen outcome
  asked_explained Tells Shows show shows outcome r = record {
    files = r.files;
    told = λ held e. both_files seen r.files a.of r.none r.database r.query held e ∙ named held;
    is = outcome_for a r.files seen task (no_database_for r.files) (refused r.files) (above r.files) (failed r.files) Shows (shows r.files) outcome (cause_of seen a r.files Tells Shows show outcome r.case);
  }

-- each task
pub explained : (task : Task) (seen : ShelfSeen) (outcome : Outcome) → IsDueOf task seen outcome → Explained task seen outcome
explained (ask of cap false called) seen outcome due =
    let a : Asked = record { of = of; need = None; after = None; cap = Some cap } in
    asked_explained a seen (ask of cap false called) (λ files h. h) (λ files h. h) (λ files h. h) (λ files h. h) (λ held. refl) (λ digest p tuple. IsAnswerText called) (λ digest bytes db q. IsAnswerText called db q bytes) (λ digest p tuple db q bytes plan resumed told. told) (λ files bytes h. h) outcome
    (reached seen a (λ digest p tuple. IsAnswerText called) (IsAnswered of.way false called cap) (answer_goes_on a called cap refl refl) outcome due)
explained (ask of cap true called) seen outcome due =
    let a : Asked = record { of = of; need = Some Canon; after = None; cap = Some cap } in
    asked_explained a seen (ask of cap true called) (λ files h. h) (λ files h. h) (λ files h. h) (λ files h. h) (λ held. refl) (λ digest p tuple. IsCanonicalText called) (λ digest bytes db q. IsCanonicalText called db q bytes) (λ digest p tuple db q bytes plan resumed told. told) (λ files bytes h. h) outcome
    (reached seen a (λ digest p tuple. IsCanonicalText called) (IsAnswered of.way true called cap) (canonical_goes_on a called cap refl refl refl) outcome due)
explained (decide of cap dates) seen outcome due =
    let a : Asked = record { of = of; need = None; after = None; cap = Some cap } in
    asked_explained a seen (decide of cap dates) (λ files h. h) (λ files h. h) (λ files h. h) (λ files h. h) (λ held. refl) (λ digest p tuple. TellsWitness dates) (λ digest bytes db q. TellsWitness dates db q bytes) (λ digest p tuple db q bytes plan resumed told. told) (λ files bytes h. h) outcome
    (reached seen a (λ digest p tuple. TellsWitness dates) (IsDecided of.way dates cap) (decide_goes_on a dates cap refl refl) outcome due)
explained (list of from to limit after json cap) seen outcome due =
    let a : Asked = record { of = of; need = None; after = after; cap = Some cap } in
    asked_explained a seen (list of from to limit after json cap) (λ files h. h) (λ files h. h) (λ files h. h) (λ files h. h) (λ held. refl) (λ digest p tuple db q. TellsPage db q from to tuple limit of.civil json digest) (λ digest. TellsPageAfter from to limit after of.civil json digest)
    (λ digest p tuple db q bytes plan resumed told. record { tuple = tuple; resumed = resumed; page = told }) (λ files bytes h. h) outcome
    (reached seen a (λ digest p tuple db q. TellsPage db q from to tuple limit of.civil json digest) (IsListed of.way of.civil from to limit after json cap) (list_goes_on a cap from to limit of.civil json refl) outcome due)
explained (count of from to cap) seen outcome due =
    let a : Asked = record { of = of; need = Some needs.Count; after = None; cap = Some cap } in
    asked_explained a seen (count of from to cap) (λ files h. h) (λ files h. h) (λ files h. h) (λ files h. h) (λ held. refl) (λ digest p tuple db q. TellsNumber db q from to) (λ digest bytes db q. TellsNumber db q from to bytes) (λ digest p tuple db q bytes plan resumed told. told) (λ files bytes h. h) outcome
    (reached seen a (λ digest p tuple db q. TellsNumber db q from to) (IsNumberTold of.way from to cap) (number_goes_on a cap from to refl refl) outcome due)
explained (ranges of from to limit json cap) seen outcome due =
    let a : Asked = record { of = of; need = Some needs.Ranges; after = None; cap = Some cap } in
    asked_explained a seen (ranges of from to limit json cap) (λ files h. h) (λ files h. h) (λ files h. h) (λ files h. h) (λ held. refl) (λ digest p tuple db q. TellsRanges db q from to limit of.civil json) (λ digest bytes db q. TellsRanges db q from to limit of.civil json bytes)
    (λ digest p tuple db q bytes plan resumed told. told) (λ files bytes h. h) outcome
    (reached seen a (λ digest p tuple db q. TellsRanges db q from to limit of.civil json) (IsRanged of.way of.civil from to limit json cap) (ranges_go_on a cap from to limit of.civil json refl refl) outcome due)
explained (explain of) seen outcome due =
    let a : Asked = record { of = of; need = None; after = None; cap = None } in
    asked_explained a seen (explain of) (λ files h. h) (λ files h. h) (λ files h. h) (λ files h. h) (λ held. refl) (λ digest p tuple db q. TellsPlan p) (λ digest. TellsPlanOf of.way) (λ digest p tuple db q bytes plan resumed told. record { plan = p; is = plan; told = told }) (λ files bytes h. h) outcome
    (reached seen a (λ digest p tuple db q. TellsPlan p) IsExplained (explain_goes_on a refl refl) outcome due)
explained (check database civil) seen outcome due = record {
  files = two_files due.is.bytes [];
  told = λ held e. ap (λ (bytes : List ℕ). two_files bytes []) (due.is.told held e);
  is = check_read civil database seen outcome due.is.bytes due.first due.is.is due.next;
}
explained (lint of) seen outcome due = lint_explained of seen outcome due
explained (watch database query edits cap way auto) seen outcome due = watch_explained database query edits cap way auto seen outcome due
explained (sample seed size) seen outcome due = record {
  files = two_files [] [];
  told = λ held e. refl;
  is = sample_written seed size seen (two_files [] []) outcome due;
}

-- ---- a run

-- a status is `Write`, or it is not
write_or_not : (s : Status) → (s ≡ status.Write) ⊎ (s ≢ status.Write)
write_or_not status.Write = inl refl
write_or_not status.Done = inr (λ e. cc)
write_or_not status.Usage = inr (λ e. cc)
write_or_not status.Database = inr (λ e. cc)
write_or_not status.Query = inr (λ e. cc)
write_or_not status.Limit = inr (λ e. cc)
write_or_not status.Read = inr (λ e. cc)
write_or_not status.Memory = inr (λ e. cc)

-- the cause of the status of an outcome that was written whole
whole_cause : (task : Task) (files : Contents) (seen : ShelfSeen) (taken : SinkSeen) (outcome : Outcome) → OutcomeFor task seen files outcome → WroteAll taken (written_of outcome) → IsReason (status_of outcome) task files seen taken
whole_cause task files seen taken (Ok bytes) is whole = record { output = bytes; is = is; whole = whole }
whole_cause task files seen taken (Err refusal) is whole = is taken whole

task_cause : (task : Task) (run : Run) (outcome : Outcome) → IsDueOf task run.seen outcome → Ends outcome run.taken run.ended → HasTaskReason task run
task_cause task run outcome due ends =
    let x = explained task run.seen outcome due in
    record {
      files = x.files;
      told = x.told;
      is =
          elim (write_or_not run.ended) [
            | inl write ↦ subst (λ s. IsReason s task x.files run.seen run.taken) (sym write) (ends.cause write)
            | inr apart ↦ subst (λ s. IsReason s task x.files run.seen run.taken) (sym (ends.own_status apart)) (whole_cause task x.files run.seen run.taken outcome x.is (ends.whole apart))
          ];
    }

usage_cause : (taken : SinkSeen) (ended : Status) (outcome : Outcome) → outcome ≡ Err Usage → Ends outcome taken ended → IsUsage ended taken
usage_cause taken ended outcome e ends =
    elim (write_or_not ended) [
      | inl write ↦ subst (λ s. IsUsage s taken) (sym write) (ends.cause write)
      | inr apart ↦ subst (λ s. IsUsage s taken) (sym (ends.own_status apart ∙ ap status_of e)) (ends.whole apart ∙ ap (λ o. appended taken.bytes_before (written_of o)) e)
    ]

-- why a run ended so
pub run_cause : (task : Option Task) (run : Run) (outcome : Outcome) → IsDueFor task run.seen outcome → Ends outcome run.taken run.ended → HasReasonFor task run
run_cause None run outcome due ends = usage_cause run.taken run.ended outcome due ends
run_cause (Some task) run outcome due ends = task_cause task run outcome due.0 ends
