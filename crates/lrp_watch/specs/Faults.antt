-- Faults of edits, by their numbers.
use Rattle.std.specs.Prelude.{◌≡◌, ℕ}
use Rattle.lrp_keep.specs.declared.faults.KeepFault.{KeepFault}
use Rattle.lrp_keep.specs.declared.faults.KeepFault.TheVariants as keep
use Rattle.lrp_watch.specs.declared.faults.WatchFault.{WatchFault}
use Rattle.lrp_watch.specs.declared.faults.WatchFault.TheVariants.{PeriodLimit, BoundLimit, TooManyCells, Memory}

-- the limit that was passed at an edit has its cause; want of memory has none
abbrev pub IsFaultBy : (ℕ → KeepFault → Type 0) → WatchFault → Type 0
IsFaultBy IsPassed (PeriodLimit edit) = IsPassed edit keep.PeriodLimit
IsFaultBy IsPassed (BoundLimit edit) = IsPassed edit keep.BoundLimit
IsFaultBy IsPassed (TooManyCells edit) = IsPassed edit keep.TooManyCells
IsFaultBy IsPassed Memory = Unit {0}

-- a keeper's fault at the edit of this number
abbrev pub fault_of : ℕ → KeepFault → WatchFault
fault_of number keep.PeriodLimit = PeriodLimit number
fault_of number keep.BoundLimit = BoundLimit number
fault_of number keep.TooManyCells = TooManyCells number
fault_of number keep.Memory = Memory

-- at the edit of this number a limit is passed that has this cause
abbrev pub IsFaultAt : ℕ → (KeepFault → Type 0) → ℕ → KeepFault → Type 0
IsFaultAt number IsCaused edit fault = (edit ≡ number) × IsCaused fault
