-- The zones that were looked at stand in it.
use Rattle.std.proofs.Common.{◌≡◌, take}
use Rattle.lrp_steps.proofs.lent.lent_from.Given as goal

abbrev pub invariant-loop-placed : goal.invariant-loop-placed
invariant-loop-placed l = l.lent.items ≡ take l.placed-index l.zones
