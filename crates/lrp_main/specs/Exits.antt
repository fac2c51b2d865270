-- How the program ends.
use Rattle.std.specs.Prelude.{◌≡◌, ◌⊎◌, ℕ, List, String}
use Rattle.std.specs.declared.alloc.Global.{Global}
use Rattle.lrp_outputs.specs.Statuses.{status_number}
use Rattle.lrp_outputs.specs.declared.status.Status.{Status}
use Rattle.lrp_top.specs.Due.{IsRun}
use Rattle.lrp_top.specs.Seen.{ShelfSeen, SinkSeen}

-- with this number, which is that of the status of a run of these words
pub record IsExitOf (words : List (String Global)) (seen : ShelfSeen) (taken : SinkSeen) (number : ℕ) : Type 0 where
  pub status : Status
  pub run : IsRun words seen taken status
  pub told : number ≡ status_number status

-- before any run: memory for its words was refused, or the system didn't give them as UTF-8
abbrev pub IsUnbegun : ℕ → Type 0
IsUnbegun number = (number ≡ 8) ⊎ (number ≡ 10)

-- as a run of some words over files and an output of which nothing is told, or before any run
pub record IsRunOfSome (number : ℕ) : Type 0 where
  pub words : List (String Global)
  pub seen : ShelfSeen
  pub taken : SinkSeen
  pub exit : IsExitOf words seen taken number

abbrev pub IsExit : ℕ → Type 0
IsExit number = IsUnbegun number ⊎ IsRunOfSome number
