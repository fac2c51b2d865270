-- Limits that are passed while edits are made, as refusals.
use Rattle.std.specs.Prelude.{ℕ}
use Rattle.lrp_watch.specs.declared.faults.WatchFault.{WatchFault}
use Rattle.lrp_watch.specs.declared.faults.WatchFault.TheVariants as watch_fault
use Rattle.lrp_outputs.specs.declared.refusal.Refusal.{Refusal}
use Rattle.lrp_outputs.specs.declared.refusal.Refusal.TheVariants.{Watch, Memory}
use Rattle.lrp_outputs.specs.declared.watch_refusal.WatchRefusal.TheVariants as watch

-- the refusal at an edit, where at most cap cells are allowed
abbrev pub refused_at : ℕ → WatchFault → Refusal
refused_at cap (watch_fault.PeriodLimit edit) = Watch (watch.PeriodLimit edit)
refused_at cap (watch_fault.BoundLimit edit) = Watch (watch.BoundLimit edit)
refused_at cap (watch_fault.TooManyCells edit) = Watch (watch.Cells cap edit)
refused_at cap watch_fault.Memory = Memory
