-- The bounds that are after are shifted.
use Rattle.std.proofs.Common.{take}
use Rattle.lrp_steps.proofs.ReadRows.{AreShifted}
use Rattle.lrp_steps.proofs.row_bounds.with_bounds.Given as goal

abbrev pub invariant-loop-bound : goal.invariant-loop-bound
invariant-loop-bound l = AreShifted l.times l.terms (take l.bound-index l.bounds) l.shifted.items
