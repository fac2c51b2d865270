-- The first zones are appended.
use Rattle.std.proofs.Common.{take}
use Rattle.lrp_cutting.specs.Settling.{AddsZones}
use Rattle.lrp_eval.proofs.settling.add_all.Given as goal

abbrev pub invariant-loop-zone : goal.invariant-loop-zone
invariant-loop-zone l = AddsZones l.cell (take l.zone-index l.zones) l.initial.store l.store
