-- The first columns have their lines.
use Rattle.lrp_cutting.specs.Windows.{HaveLines}
use Rattle.lrp_cutting.proofs.cutters.lines_of.Given as goal

abbrev pub invariant-loop-i : goal.invariant-loop-i
invariant-loop-i l = HaveLines l.zones l.lines.items
