-- Tasks to which no refusal applies, and the output of a task.
use Rattle.std.specs.Prelude.{◌≡◌, ◌≢◌, ◌≤◌, ℕ, ℤ, Bool, true, false, List, Option, Ok}
use Rattle.lrp_words.specs.Commands.{Task}
use Rattle.lrp_words.specs.Commands.Task.{ask, decide, list, count, ranges, explain, check, lint, watch, sample}
use Rattle.lrp_model.specs.AnswerTexts.{IsAnswerText}
use Rattle.lrp_model.specs.Caps.{ManyAt}
use Rattle.lrp_model.specs.Formulas.{Question}
use Rattle.lrp_model.specs.Rows.{Tuple}
use Rattle.lrp_model.specs.Plans.{IsPlan}
use Rattle.lrp_model.specs.Sorts.{time_count}
use Rattle.lrp_model.specs.Texts.{Identifier, Text}
use Rattle.lrp_model.specs.declared.plans.Plan.{Plan}
use Rattle.lrp_model.specs.declared.plans.Planning.{Planning}
use Rattle.lrp_model.specs.declared.relations.Relation.{Relation}
use Rattle.lrp_plan_laws.specs.GuardedPlans.{plan_by}
use Rattle.lrp_edits.specs.declared.edits.Edit.{Edit}
use Rattle.lrp_keep.specs.declared.faults.KeepFault.{KeepFault}
use Rattle.lrp_keep.specs.declared.faults.KeepFault.TheVariants as limit
use Rattle.lrp_kept.specs.KeptForm.{is_kept}
use Rattle.lrp_top.specs.Watched.{IsPassedBy, TellsLeastsBy}
use Rattle.lrp_top.specs.Canonical.{HasCanonicalRows, IsCanonicalText}
use Rattle.lrp_outputs.specs.declared.head.HeadNeed.{HeadNeed}
use Rattle.lrp_outputs.specs.declared.head.HeadNeed.TheVariants as needs
use Rattle.lrp_top.specs.Heads.{IsMetBy}
use Rattle.lrp_top.specs.Resuming.{IsResumed}
use Rattle.lrp_top.specs.Sampled.{TellsSample}
use Rattle.lrp_top.specs.Telling.{TellsFindings, TellsNumber, TellsPage, TellsPlan, TellsRanges, TellsRelations, TellsWitness}
use Rattle.lrp_top.specs.Languages.{usual_by}
use Rattle.lrp_run_laws.specs.Contents.{Contents, digest_of, OverDatabase, Asking, Linting, Watching}

-- ---- lawful tasks

-- no step of the plan by this way has more than cap inhabited cells
abbrev pub HasFewCells : Planning → ℕ → List Relation → Question → Type 0
HasFewCells way cap db q = (s : ℕ) → ManyAt (plan_by way db q) db q cap s → ⊥

-- there is no token, or it is one of these files with the head's counts; and no step has more than cap inhabited cells
pub record IsResumable (way : Planning) (cap : ℕ) (after : Option Text) (digest : List ℕ) (db : List Relation) (q : Question) : Type 0 where
  pub tuple : Option Tuple
  pub resumed : IsResumed digest q.head after (Ok tuple)
  pub few : HasFewCells way cap db q

-- no step has more than cap inhabited cells; and where a canonical answer is asked for, the head has one time column and the answer has at most cap rows
abbrev pub IsAnswerable : Planning → Bool → ℕ → List Relation → Question → Type 0
IsAnswerable way false cap db q = HasFewCells way cap db q
IsAnswerable way true cap db q = HasFewCells way cap db q × (time_count q.head ≡ 1) × ((n : ℕ) × HasCanonicalRows db q n × (n ≤ cap))

-- the head has the columns that are needed, and no step has more than cap inhabited cells
pub record IsTellable (need : HeadNeed) (way : Planning) (cap : ℕ) (db : List Relation) (q : Question) : Type 0 where
  pub head : IsMetBy need q.head
  pub few : HasFewCells way cap db q

-- at some edit a limit is passed, the opening being edit 0
pub record PassesLimit (way : Planning) (cap : ℕ) (db : List Relation) (q : Question) (edits : List Edit) : Type 0 where
  pub number : ℕ
  pub passed : KeepFault
  pub some : passed ≢ limit.Memory
  pub is : IsPassedBy (is_kept q) way db q edits cap number passed

-- the text is that of all answers, as they come or in canonical form
abbrev pub IsTextFor : Bool → Identifier → List Relation → Question → List ℕ → Type 0
IsTextFor false = IsAnswerText
IsTextFor true = IsCanonicalText

-- no refusal applies to the task; none ever does to the sample
abbrev pub IsLawfulTask : Task → Contents → Type 0
IsLawfulTask (ask of cap canon called) files = Asking of files (IsAnswerable of.way canon cap)
IsLawfulTask (decide of cap dates) files = Asking of files (HasFewCells of.way cap)
IsLawfulTask (list of from to limit after json cap) files = Asking of files (IsResumable of.way cap after (digest_of files))
IsLawfulTask (count of from to cap) files = Asking of files (IsTellable needs.Count of.way cap)
IsLawfulTask (ranges of from to limit json cap) files = Asking of files (IsTellable needs.Ranges of.way cap)
IsLawfulTask (explain of) files = Asking of files (λ db q. Unit {0})
IsLawfulTask (check database civil) files = OverDatabase (usual_by civil) files (λ db. Unit {0})
IsLawfulTask (lint of) files = Linting of files (λ db asked. Unit {0})
IsLawfulTask (watch database query edits cap way auto) files = Watching auto files (λ db q these. PassesLimit way cap db q these → ⊥)
IsLawfulTask (sample seed size) files = Unit {0}

-- ---- the output of a task

-- a page of the query's answers in the window, after the tuple of the token where there is one
pub record TellsPageAfter (from to : ℤ) (limit : ℕ) (after : Option Text) (civil json : Bool) (digest output : List ℕ) (db : List Relation) (q : Question) : Type 0 where
  pub tuple : Option Tuple
  pub resumed : IsResumed digest q.head after (Ok tuple)
  pub page : TellsPage db q from to tuple limit civil json digest output

-- the plan of the query by this way
pub record TellsPlanOf (way : Planning) (output : List ℕ) (db : List Relation) (q : Question) : Type 0 where
  pub plan : Plan
  pub is : IsPlan plan (plan_by way db q) db q
  pub told : TellsPlan plan output

-- the bytes are the task's output over the contents of its files
abbrev pub IsOutputOf : Task → Contents → List ℕ → Type 0
IsOutputOf (ask of cap canon called) files output = Asking of files (λ db q. IsTextFor canon called db q output)
IsOutputOf (decide of cap dates) files output = Asking of files (λ db q. TellsWitness dates db q output)
IsOutputOf (list of from to limit after json cap) files output = Asking of files (TellsPageAfter from to limit after of.civil json (digest_of files) output)
IsOutputOf (count of from to cap) files output = Asking of files (λ db q. TellsNumber db q from to output)
IsOutputOf (ranges of from to limit json cap) files output = Asking of files (λ db q. TellsRanges db q from to limit of.civil json output)
IsOutputOf (explain of) files output = Asking of files (TellsPlanOf of.way output)
IsOutputOf (check database civil) files output = OverDatabase (usual_by civil) files (λ db. TellsRelations db output)
IsOutputOf (lint of) files output = Linting of files (λ db asked. TellsFindings db asked output)
IsOutputOf (watch database query edits cap way auto) files output = Watching auto files (λ db q these. TellsLeastsBy (is_kept q) way db q these cap output)
IsOutputOf (sample seed size) files output = TellsSample seed size output
