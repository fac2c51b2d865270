-- A run over files that are never failed at.
use Rattle.std.proofs.Common.{◌≡◌, ℕ, List, [], Some, true, if◌then◌else◌, ap, arith, String}
use Rattle.std.proofs.lemmas.Grind.{common_steps}
use Rattle.std.specs.declared.alloc.Global.{Global}
use Rattle.lrp_io.specs.Causes.{Rose}
use Rattle.lrp_io.specs.Files.{holds_file}
use Rattle.lrp_io.specs.declared.shelf.File.{File}
use Rattle.lrp_model.specs.Texts.{Identifier}
use Rattle.lrp_outputs.specs.declared.status.Status.{Status}
use Rattle.lrp_top.specs.Due.{IsRun}
use Rattle.lrp_top.specs.Seen.{HasFailed, ShelfSeen, SinkSeen}
use Rattle.lrp_c.specs.Calls.{IsRunOver}

pub run_is_over : {words : List (String Global)} {seen : ShelfSeen} {taken : SinkSeen} {ended : Status} {files : List File} {text : List ℕ} → IsRun words seen taken ended → seen.files ≡ Some files
    → ((name : Identifier) → holds_file files name ≡ true → HasFailed seen name → ⊥) → taken.bytes_before ≡ Some [] → taken.bytes ≡ Some text → IsRunOver words files text ended
run_is_over {seen = s} {taken = t} is h so e to = record { seen = s; taken = t; held = h; sound = so; empty = e; told = to; run = is }

-- a count that is 0 didn't rise
pub never_fails : (before now : ℕ) → now ≡ 0 → Rose before now → ⊥
never_fails before now none rose = grind (arith, common_steps, none, rose)

-- of a file that is held no fault is counted
pub no_fault_of : (files : List File) (name : Identifier) (faults : ℕ) → holds_file files name ≡ true → (if holds_file files name then 0 else faults) ≡ 0
no_fault_of files name faults held = ap (λ b. if b then 0 else faults) held
