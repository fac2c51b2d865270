-- The zones of the first windows do not hold the zone.
use Rattle.std.proofs.Common.{take}
use Rattle.std.specs.Prelude.{Contains}
use Rattle.lrp_cutting.specs.Covering.{IsCoveredBy}
use Rattle.lrp_cutting.specs.declared.windows.CutterWindow.{CutterWindow as Window}
use Rattle.lrp_cutting.proofs.covering.is_covered.Given as goal

abbrev pub invariant-loop-other : goal.invariant-loop-other
invariant-loop-other l = (w : Window) → Contains (take l.other-index l.other-items) w → IsCoveredBy l.zones l.out l.place w.place → ⊥
