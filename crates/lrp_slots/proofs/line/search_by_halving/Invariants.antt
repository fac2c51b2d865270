-- The key comes after all before the one place, and before all from the other one on.
use Rattle.std.proofs.Common.{◌-◌}
use Rattle.lrp_slots.specs.Lines.{ComesBetween}
use Rattle.lrp_slots.specs.Keys.{entries_by}
use Rattle.lrp_slots.proofs.line.search_by_halving.Given as goal

abbrev pub invariant-loop-low : goal.invariant-loop-low
invariant-loop-low g l = ComesBetween (entries_by g.K.Key.cell_of l.line) (g.K.Key.cell_of l.key) l.low l.high

abbrev pub decreases-loop-low : goal.decreases-loop-low
decreases-loop-low g l = l.high - l.low
