-- Runs, and complete ones.
use Rattle.std.specs.Prelude.{◌≡◌, ℕ, List, map, Option, Some, String, string_bytes}
use Rattle.std.specs.List.{AllByRecursion}
use Rattle.std.specs.declared.alloc.Global.{Global}
use Rattle.lrp_io.specs.Bytes.{appended}
use Rattle.lrp_io.specs.Causes.{Rose}
use Rattle.lrp_io.specs.declared.shelf.File.{File}
use Rattle.lrp_words.specs.Commands.{Task, command}
use Rattle.lrp_top.specs.Due.{files_of, IsRun}
use Rattle.lrp_outputs.specs.Outcomes.{line_of}
use Rattle.lrp_top.specs.Seen.{ShelfSeen, SinkSeen, HasFailed}
use Rattle.lrp_outputs.specs.declared.refusal.Refusal.TheVariants as refusal
use Rattle.lrp_outputs.specs.declared.status.Status.{Status}
use Rattle.lrp_outputs.specs.declared.status.Status.TheVariants as status
use Rattle.lrp_run_laws.specs.Contents.{Contents}
use Rattle.lrp_run_laws.specs.Tasks.{IsOutputOf}

-- a run: its words, what is seen of the shelf, what the sink took, and the status that it ended with
pub record Run : Type 0 where
  pub words : List (String Global)
  pub seen : ShelfSeen
  pub taken : SinkSeen
  pub ended : Status

-- the task that its words spell, if they do
abbrev pub task_asked : Run → Option Task
task_asked run = command (map string_bytes run.words)

-- the program may run so
abbrev pub MayHappen : Run → Type 0
MayHappen run = IsRun run.words run.seen run.taken run.ended

-- it may, for words that spell this task, over a shelf that tells these files
pub record IsRunOf (task : Task) (held : List File) (run : Run) : Type 0 where
  pub spelled : task_asked run ≡ Some task
  pub told : run.seen.files ≡ Some held
  pub may_happen : MayHappen run

-- no count of faults of the task's files rose, and not that of the sink
pub record HaveStoodStill (task : Task) (run : Run) : Type 0 where
  pub files : AllByRecursion (λ name. HasFailed run.seen name → ⊥) (files_of task)
  pub sink : Rose run.taken.faults_before run.taken.faults → ⊥

-- these bytes were written whole
abbrev pub WroteAll : SinkSeen → List ℕ → Type 0
WroteAll taken bytes = taken.bytes ≡ appended taken.bytes_before bytes

-- the task's output was
pub record WroteOutput (task : Task) (files : Contents) (taken : SinkSeen) : Type 0 where
  pub output : List ℕ
  pub is : IsOutputOf task files output
  pub whole : WroteAll taken output

-- a run ended with Done and the task's output, or with Memory and its line
abbrev pub EndsComplete : Status → Task → Contents → SinkSeen → Type 0
EndsComplete status.Done task files taken = WroteOutput task files taken
EndsComplete status.Memory task files taken = WroteAll taken (line_of refusal.Memory)
EndsComplete _ task files taken = ⊥

abbrev pub IsComplete : Task → Contents → Run → Type 0
IsComplete task files run = EndsComplete run.ended task files run.taken
