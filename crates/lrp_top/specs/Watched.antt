-- What is due of a watch: a query in kept form, edits of its database, and the lines of the least answers while they are made.
use Rattle.std.specs.Prelude.{◌≡◌, ◌<◌, ◌≤◌, ℕ, Bool, true, false, ◌||◌, List, length, Result, Ok, Err}
use Rattle.lrp_model.specs.Formulas.{Question}
use Rattle.lrp_model.specs.Texts.{Identifier}
use Rattle.lrp_model.specs.declared.relations.Relation.{Relation}
use Rattle.lrp_edits.specs.EditReading.{IsEditsFault, SaysEdits}
use Rattle.lrp_edits.specs.declared.edits.Edit.{Edit}
use Rattle.lrp_kept.specs.KeptForm.{is_kept}
use Rattle.lrp_keep.specs.declared.faults.KeepFault.{KeepFault}
use Rattle.lrp_keep.specs.declared.faults.KeepFault.TheVariants as limit
use Rattle.lrp_model.specs.declared.plans.Planning.{Planning}
use Rattle.lrp_watch.specs.Anew.{IsPassedAnew, TellsLeastsAnew}
use Rattle.lrp_watch.specs.Watching.{IsPassed, TellsLeasts}
use Rattle.lrp_outputs.specs.Outcomes.{Outcome}
use Rattle.lrp_top.specs.Seen.{ShelfSeen, HasFailed, IsOverrun}
use Rattle.lrp_top.specs.Sources.{FromFile}
use Rattle.lrp_outputs.specs.declared.refusal.Refusal.{Refusal}
use Rattle.lrp_outputs.specs.declared.refusal.Refusal.TheVariants.{Watch, Memory}
use Rattle.lrp_model.specs.Limits.{most_bytes}
use Rattle.lrp_outputs.specs.declared.watch_refusal.WatchRefusal.TheVariants as watch

-- the query is looked at. Ok: it is in kept form, or it may have another. Refused: neither
abbrev pub IsFormFit : Bool → Question → Result (Unit {0}) Refusal → Type 0
IsFormFit auto q (Ok done) = (is_kept q || auto) ≡ true
IsFormFit auto q (Err (Watch watch.NotKept)) = (is_kept q || auto) ≡ false
IsFormFit auto q (Err _) = ⊥

-- the file of the edits is read. Ok: the edits of the database that its text says. Refused: its count of faults rose, it is too long, or its text has a fault; or want of memory
abbrev pub AreEditsReadOf : List Relation → ShelfSeen → Identifier → List ℕ → Result (List Edit) Refusal → Type 0
AreEditsReadOf db seen name bytes (Ok edits) = (length bytes ≤ most_bytes) × SaysEdits bytes db edits
AreEditsReadOf db seen name bytes (Err (Watch watch.Read)) = HasFailed seen name
AreEditsReadOf db seen name bytes (Err (Watch watch.Long)) = (most_bytes < length bytes) × IsOverrun seen name
AreEditsReadOf db seen name bytes (Err (Watch (watch.Edits fault))) = (length bytes ≤ most_bytes) × IsEditsFault bytes db fault
AreEditsReadOf db seen name bytes (Err Memory) = Unit {0}
AreEditsReadOf db seen name bytes (Err _) = ⊥

-- the same for some bytes, which are the file's where the files are told
abbrev pub AreEditsRead : List Relation → ShelfSeen → Identifier → Result (List Edit) Refusal → Type 0
AreEditsRead db seen name = FromFile seen name (AreEditsReadOf db seen name)

-- the lines of the least answers while the edits are made: of what is kept where the flag is set, and else decided anew by this way of planning
abbrev pub TellsLeastsBy : Bool → Planning → List Relation → Question → List Edit → ℕ → List ℕ → Type 0
TellsLeastsBy true way = TellsLeasts
TellsLeastsBy false way = TellsLeastsAnew way

-- the limit that is passed at the edit of this number
abbrev pub IsPassedBy : Bool → Planning → List Relation → Question → List Edit → ℕ → ℕ → KeepFault → Type 0
IsPassedBy true way = IsPassed
IsPassedBy false way = IsPassedAnew way

-- the edits are made, and the least answers told; the flag says whether the query is in kept form. Ok: their lines. Refused: the first edit at which a limit is passed, the opening being edit 0; or want of memory
abbrev pub IsWatched : Bool → Planning → List Relation → Question → ℕ → List Edit → Outcome → Type 0
IsWatched kept way db q cap edits (Ok bytes) = TellsLeastsBy kept way db q edits cap bytes
IsWatched kept way db q cap edits (Err (Watch (watch.PeriodLimit edit))) = IsPassedBy kept way db q edits cap edit limit.PeriodLimit
IsWatched kept way db q cap edits (Err (Watch (watch.BoundLimit edit))) = IsPassedBy kept way db q edits cap edit limit.BoundLimit
IsWatched kept way db q cap edits (Err (Watch (watch.Cells most edit))) = (most ≡ cap) × IsPassedBy kept way db q edits cap edit limit.TooManyCells
IsWatched kept way db q cap edits (Err Memory) = Unit {0}
IsWatched kept way db q cap edits (Err _) = ⊥
