-- What holds of a task's outcome: it is the output, or there is a cause.
use Rattle.std.proofs.Common.{◌≡◌, refl, Ok, Err}
use Rattle.lrp_words.specs.Commands.{Task}
use Rattle.lrp_run_laws.specs.Contents.{Contents, AreContentsFor}
use Rattle.lrp_run_laws.specs.Tasks.{IsOutputOf}
use Rattle.lrp_run_laws.specs.Runs.{WroteAll}
use Rattle.lrp_run_laws.specs.Reasons.{IsReason}
use Rattle.lrp_outputs.specs.Outcomes.{Outcome, refused_with, line_of}
use Rattle.lrp_top.specs.Seen.{ShelfSeen, SinkSeen}
use Rattle.lrp_outputs.specs.declared.refusal.Refusal.{Refusal}
use Rattle.lrp_outputs.specs.declared.refusal.Refusal.TheVariants.{Usage, ReadDatabase, LongDatabase, Database, ReadQuery, LongQuery, Query, Formulas, Depth, PeriodLimit, BoundLimit, TokenForm, TokenShape, TokenStale, Cells, Head, CanonRows, Watch, Memory}
use Rattle.lrp_outputs.specs.declared.watch_refusal.WatchRefusal.TheVariants as watch
use Rattle.lrp_outputs.specs.declared.status.Status.TheVariants as status

-- no other refusal has the status of want of memory
pub is_memory : (r : Refusal) → refused_with r ≡ status.Memory → r ≡ Memory
is_memory Memory e = refl
is_memory Usage e = cc
is_memory ReadDatabase e = cc
is_memory LongDatabase e = cc
is_memory (Database fault) e = cc
is_memory ReadQuery e = cc
is_memory LongQuery e = cc
is_memory (Query fault) e = cc
is_memory Formulas e = cc
is_memory Depth e = cc
is_memory PeriodLimit e = cc
is_memory BoundLimit e = cc
is_memory TokenForm e = cc
is_memory TokenShape e = cc
is_memory TokenStale e = cc
is_memory (Cells most step) e = cc
is_memory (Head need) e = cc
is_memory (CanonRows most) e = cc
is_memory (Watch watch.NotKept) e = cc
is_memory (Watch watch.Read) e = cc
is_memory (Watch watch.Long) e = cc
is_memory (Watch (watch.Edits fault)) e = cc
is_memory (Watch (watch.PeriodLimit edit)) e = cc
is_memory (Watch (watch.BoundLimit edit)) e = cc
is_memory (Watch (watch.Cells most edit)) e = cc

-- what holds of a task's outcome over the bytes of its files: it is the output, or there is a cause
abbrev pub OutcomeFor : Task → ShelfSeen → Contents → Outcome → Type 0
OutcomeFor task seen files (Ok bytes) = IsOutputOf task files bytes
OutcomeFor task seen files (Err refusal) = (taken : SinkSeen) → WroteAll taken (line_of refusal) → IsReason (refused_with refusal) task files seen taken

pub record Explained (task : Task) (seen : ShelfSeen) (outcome : Outcome) : Type 0 where
  pub files : Contents
  pub told : AreContentsFor seen task files
  pub is : OutcomeFor task seen files outcome
